pub mod Places
pub mod Ways
pub mod Reads
pub mod Shapes
pub mod Each
pub mod Example
