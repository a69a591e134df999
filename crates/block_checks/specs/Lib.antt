pub mod Kept
pub mod Stops
pub mod Rows
pub mod Marks
