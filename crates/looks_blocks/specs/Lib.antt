pub mod Blocks
pub mod Choices
pub mod Controls
pub mod Costumes
pub mod Keeps
pub mod Stops
