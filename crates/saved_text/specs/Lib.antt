pub mod Laws
pub mod Ranges
pub mod Saving
pub mod Seen
pub mod Sending
pub mod Threads
