pub mod Numbered
pub mod Carried
pub mod Data
pub mod Kept
pub mod First
