use Rattle.shared_stacks.specs.Chains.{IsIn, Moves}
use Rattle.shared_stacks.proofs.pool.Pool.clear.Given as goal

abbrev pub invariant-loop-stack : goal.invariant-loop-stack
invariant-loop-stack g l = record {
  there : IsIn l.self l.stack;
  moved : Moves l.fn.self l.self l.fn.stack l.stack;
}

abbrev pub decreases-loop-stack : goal.decreases-loop-stack
decreases-loop-stack g l = l.stack.depth
