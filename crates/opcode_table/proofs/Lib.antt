pub mod Finding
pub mod Roles
