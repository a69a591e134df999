pub mod Found
pub mod Lines
pub mod Seen
pub mod Spaced
pub mod Told
pub mod Writers
pub mod Zero
