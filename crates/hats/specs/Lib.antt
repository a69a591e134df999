pub mod Heads
pub mod Fitting
pub mod Started
pub mod Indexed
pub mod Rounds
pub mod Edges
pub mod Stops
