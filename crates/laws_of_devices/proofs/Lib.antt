pub mod Named
pub mod Reading
pub mod Timing
pub mod Keys
pub mod Desks
pub mod Rows
pub mod Kept
