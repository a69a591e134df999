use Rattle.std.proofs.Common.{◌≡◌, drop}
use Rattle.shared_stacks.specs.Chains.{IsIn, values}
use Rattle.thread_frames.proofs.levels.Levels.below.Given as goal

abbrev pub invariant-loop-step : goal.invariant-loop-step
invariant-loop-step l = record {
  there : IsIn l.self-inside.pool.now l.rest;
  below : values l.self-inside.pool.now l.rest ≡ drop l.step (values l.self-inside.pool.now l.self-inside.stack);
}
