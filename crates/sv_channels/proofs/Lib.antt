pub mod Gains
pub mod Named
mod Rows
pub mod Tallies
