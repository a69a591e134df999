pub mod Named
pub mod Unchanged
