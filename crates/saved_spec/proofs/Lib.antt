pub mod Accepted
pub mod Placed
pub mod Rows
pub mod Spelled
pub mod Standing
pub mod Telling
