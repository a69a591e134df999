pub mod Waits
pub mod Read
pub mod Making
pub mod Naming
pub mod Found
pub mod Standing
