pub mod Room
pub mod Dressed
pub mod Resolved
pub mod FirstTooMany
pub mod Linking
pub mod Caching
pub mod Defining
pub mod Linked
