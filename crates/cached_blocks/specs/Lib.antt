pub mod Parts
pub mod Cached
pub mod Told
