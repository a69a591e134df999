pub mod FilePrototype
pub mod Says
