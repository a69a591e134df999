pub mod Distinct
pub mod First
pub mod Held
pub mod Kept
pub mod Parts
