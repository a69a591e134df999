pub mod Afresh
pub mod Stops
