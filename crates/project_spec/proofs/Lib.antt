pub mod OneTree
pub mod OneRefusal
pub mod Unrolling
pub mod WorkedRows
