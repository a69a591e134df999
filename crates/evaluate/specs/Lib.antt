pub mod Seen
pub mod Plugged
pub mod Ways
pub mod Short
pub mod Stops
