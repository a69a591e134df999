pub mod Defaults
pub mod Parts
pub mod Pieces
