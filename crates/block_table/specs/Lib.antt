pub mod Short
pub mod FileBlock
pub mod Measured
pub mod Parts
pub mod Places
pub mod Refused
pub mod Table
