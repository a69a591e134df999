pub mod FirstWord
pub mod Kept
pub mod Reader
