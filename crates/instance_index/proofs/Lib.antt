pub mod Below
pub mod Appending
pub mod Walk
