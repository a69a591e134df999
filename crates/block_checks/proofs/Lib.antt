pub mod Lists
pub mod Links
pub mod Bridges
pub mod Marking
pub mod Orders
