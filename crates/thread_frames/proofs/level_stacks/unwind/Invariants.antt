use Rattle.std.proofs.Common.{◌≡◌, ◌≤◌}
use Rattle.shared_stacks.specs.Chains.{IsIn, Moves, values}
use Rattle.thread_frames.specs.Levels.{from_call, unwound}
use Rattle.thread_frames.proofs.level_stacks.unwind.Given as goal

abbrev pub invariant-loop-pool : goal.invariant-loop-pool
invariant-loop-pool l = record {
  there : IsIn l.pool l.stack;
  moved : Moves l.fn.pool l.pool l.fn.stack l.stack;
  fewer : l.stack.depth ≤ l.fn.stack.depth;
  left : from_call (values l.pool l.stack) ≡ unwound (values l.fn.pool l.fn.stack);
}

abbrev pub decreases-loop-pool : goal.decreases-loop-pool
decreases-loop-pool l = l.stack.depth
