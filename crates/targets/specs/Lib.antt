pub mod Changes
pub mod Clones
pub mod Edges
pub mod First
pub mod Hints
pub mod Layers
pub mod Live
