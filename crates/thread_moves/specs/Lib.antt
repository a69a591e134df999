pub mod Ranked
pub mod Standing
pub mod Resuming
pub mod Moves
