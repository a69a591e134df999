pub mod Noting
pub mod Measures
pub mod Closed
pub mod Short
pub mod Tables
pub mod Each
pub mod Saying
