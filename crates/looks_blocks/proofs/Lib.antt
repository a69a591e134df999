pub mod Choosing
pub mod Instances
pub mod Moved
pub mod Rows
pub mod Signs
pub mod Stopping
pub mod Waiting
pub mod Wrapping
