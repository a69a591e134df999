pub mod MadeProject
pub mod MadeScript
