pub mod Appending
pub mod Copies
pub mod Counting
