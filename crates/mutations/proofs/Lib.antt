pub mod Joined
pub mod Documents
