use Rattle.std.proofs.Common.{ℕ, ◌<◌}
use Rattle.block_checks.specs.Marks.{IsMarked}
use Rattle.block_checks.proofs.places.test_places.Given as goal

abbrev pub invariant-loop-block : goal.invariant-loop-block
invariant-loop-block l = (k : ℕ) → k < l.block → IsMarked l.marks.items k → ⊥
