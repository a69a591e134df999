pub mod Held
pub mod Records
pub mod Looks
pub mod Costumes
pub mod Reading
pub mod Bounds
pub mod Answers
pub mod Shown
