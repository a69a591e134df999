pub mod Again
pub mod Cast
pub mod Hinted
pub mod Layering
pub mod Moves
pub mod Places
pub mod Recording
pub mod Same
