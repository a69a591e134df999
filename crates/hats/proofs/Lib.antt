mod Begins
mod Walks
mod Outcomes
mod Turns
mod Entering
mod Rounds
mod Indexing
mod Edging
pub mod Fired
pub mod Headed
pub mod Stopping
