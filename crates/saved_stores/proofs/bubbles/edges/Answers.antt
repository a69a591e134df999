use Rattle.std.proofs.Common.{◌^◌, arith}
use Rattle.std.specs.Prelude.{nat_lt}
use Rattle.saved_stores.proofs.Comparing.{both, below}
use Rattle.saved_stores.proofs.bubbles.edges.Goals as goal

pub overflow_cast-block : goal.overflow_cast-block
overflow_cast-block c =
    let left = rw c.in-Some.ensures.steps.0 at c.loop-block.invariant.left in
    omega (arith, below c.in-Some.block (2 ^ 32) (both (nat_lt c.in-Some.block (2 ^ 32)) _ left).0)
