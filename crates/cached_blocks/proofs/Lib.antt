mod Steps
mod Branches
mod Names
mod Blocks
pub mod Told
