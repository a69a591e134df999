pub mod Apart
pub mod Gone
pub mod Kept
pub mod Limits
pub mod Places
pub mod Shapes
pub mod Short
