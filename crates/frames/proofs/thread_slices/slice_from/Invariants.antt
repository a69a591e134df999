-- What the executions so far left of the slice.
use Rattle.std.proofs.Common.{◌≡◌, ◌≤◌, ◌-◌}
use Rattle.machine_spec.specs.Places.{at_place}
use Rattle.machine_spec.specs.Slice.{slice, most_executions}
use Rattle.thread_frames.specs.Levels.{top_block, warp_flag}
use Rattle.thread_frames.specs.Threads.{levels_of}
use Rattle.project_check.specs.Loaded.{program_of}
use Rattle.executions.specs.Runners.{IsRunner}
use Rattle.executions.specs.Seen.{seen}
use Rattle.frames.proofs.thread_slices.slice_from.Given as goal

abbrev pub invariant-loop-execution : goal.invariant-loop-execution
invariant-loop-execution g l = record {
  runs : IsRunner l.project l.slot l.runner l.state;
  below : l.counted ≤ l.execution;
  block : l.next ≡ top_block (levels_of (at_place l.runner.which l.state.threads));
  flag : l.before ≡ warp_flag (levels_of (at_place l.runner.which l.state.threads));
  same : slice (program_of l.project) l.warp l.slot most_executions 0 (seen g.R.Rng.stream l.project l.fn.state) ≡ slice (program_of l.project) l.warp l.slot (most_executions - l.execution) l.counted (seen g.R.Rng.stream l.project l.state);
}
