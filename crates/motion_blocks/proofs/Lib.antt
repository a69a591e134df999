pub mod Glides
pub mod Instances
pub mod Stopping
