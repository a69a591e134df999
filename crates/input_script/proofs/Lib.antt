pub mod FirstLine
pub mod Forward
pub mod Kept
pub mod LineWords
pub mod Parsed
