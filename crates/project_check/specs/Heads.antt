-- The heads of a target, by number.
pub use Rattle.hat_index.specs.ByIndex.{head_number, head_numbers}
