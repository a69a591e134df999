pub mod Live
pub mod Originals
pub mod Levels
pub mod Groups
