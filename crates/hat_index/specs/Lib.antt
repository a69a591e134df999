pub mod Starts
pub mod Hats
pub mod Index
pub mod ByIndex
