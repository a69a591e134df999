pub mod Chains
pub mod Shared
pub mod Lending
