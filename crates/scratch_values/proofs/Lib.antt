pub mod Numbers
pub mod Parts
pub mod Orders
pub mod Foldings
pub mod Parameters
mod Rows
