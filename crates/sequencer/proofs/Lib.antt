mod Stopping
pub mod Events
pub mod Legal
