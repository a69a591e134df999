use Rattle.std.proofs.Common.{◌≡◌}
use Rattle.shared_stacks.specs.Chains.{IsIn, values}
use Rattle.thread_frames.specs.Levels.{near_params}
use Rattle.thread_frames.proofs.levels.params_in.Given as goal

abbrev pub invariant-loop-level : goal.invariant-loop-level
invariant-loop-level l = record {
  there : IsIn l.pool l.rest;
  same : near_params (values l.pool l.rest) ≡ near_params (values l.pool l.fn.stack);
}

abbrev pub decreases-loop-level : goal.decreases-loop-level
decreases-loop-level l = l.rest.depth
