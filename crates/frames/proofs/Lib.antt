pub mod Slices
pub mod Turns
pub mod Visits
pub mod OnePass
pub mod FramePasses
pub mod Resumes
pub mod Asked
pub mod Endings
pub mod Valued
pub mod Noted
pub mod Listing
pub mod Passed
mod Times
mod Framed
