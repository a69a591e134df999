pub mod Turns
pub mod Resuming
pub mod Questions
pub mod Timers
pub mod EdgeValues
pub mod Listed
pub mod Stages
pub mod Times
