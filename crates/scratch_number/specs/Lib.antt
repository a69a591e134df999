pub mod Limit
pub mod Number
pub mod Arithmetic
pub mod Angles
pub mod Text
pub mod Grammar
pub mod Reading
