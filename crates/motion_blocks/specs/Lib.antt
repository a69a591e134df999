pub mod Blocks
pub mod Points
