pub mod Afresh
pub mod Same
