-- What the slices so far left of the pass.
use Rattle.std.proofs.Common.{◌≡◌, ◌-◌, false}
use Rattle.machine_spec.specs.Slice.{pass, most_slices}
use Rattle.project_check.specs.Loaded.{program_of}
use Rattle.executions.specs.Seen.{seen}
use Rattle.executions.specs.Resting.{IsResting}
use Rattle.frames.proofs.thread_visits.pass.Given as goal

abbrev pub invariant-loop-slices : goal.invariant-loop-slices
invariant-loop-slices g l = record {
  resting : IsResting l.project l.state;
  same : pass (program_of l.project) l.first l.warp most_slices 0 (seen g.R.Rng.stream l.project l.fn.state) false ≡ pass (program_of l.project) l.first l.warp (most_slices - l.slices) l.from (seen g.R.Rng.stream l.project l.state) l.active;
}
