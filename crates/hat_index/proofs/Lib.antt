pub mod Adding
pub mod Finding
pub mod Folding
pub mod Fitting
