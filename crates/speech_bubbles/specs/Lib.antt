pub mod Scenes
pub mod Stops
