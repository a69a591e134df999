pub mod Seen
pub mod Course
pub mod Faults
pub mod Calls
pub mod Writes
pub mod Shelving
pub mod Stages
pub mod Idle
