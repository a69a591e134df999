-- The timers that ended so far left as many turns.
use Rattle.std.proofs.Common.{◌≡◌, ◌-◌}
use Rattle.machine_spec.specs.Frame.{timers_ended}
use Rattle.executions.specs.Resting.{IsIdle}
use Rattle.executions.specs.Seen.{seen}
use Rattle.frames.proofs.bubble_ends.end_timers.Given as goal

abbrev pub invariant-loop-ended : goal.invariant-loop-ended
invariant-loop-ended g l = record {
  idle : IsIdle l.project l.state;
  same : timers_ended l.count (seen g.R.Rng.stream l.project l.fn.state) ≡ timers_ended (l.count - l.ended) (seen g.R.Rng.stream l.project l.state);
}
