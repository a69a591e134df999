pub mod Words
pub mod Counting
pub use Rattle.rand_core.specs.Stream
