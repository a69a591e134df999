pub mod Worlds
pub mod Steps
pub mod Parts
pub mod Loading
pub mod Saving
pub mod Statuses
