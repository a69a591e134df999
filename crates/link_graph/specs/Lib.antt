pub mod Links
pub mod Ranking
pub mod Reach
pub mod Depth
pub mod Walk
pub mod Search
pub mod Slope
pub mod DepthTable
