pub mod Sizes
pub mod Counts
pub mod TargetTold
pub mod Held
pub mod Empty
