-- What the passes so far left of the frame.
use Rattle.std.proofs.Common.{◌≡◌, ◌-◌, true}
use Rattle.machine_spec.specs.Frame.{passes}
use Rattle.project_check.specs.Loaded.{program_of}
use Rattle.executions.specs.Seen.{seen}
use Rattle.executions.specs.Resting.{IsIdle}
use Rattle.frames.proofs.frame_passes.passes.Given as goal

abbrev pub invariant-loop-made : goal.invariant-loop-made
invariant-loop-made g l = record {
  idle : IsIdle l.project l.state;
  same : passes (program_of l.project) l.warp l.passes true true (seen g.R.Rng.stream l.project l.fn.state) ≡ passes (program_of l.project) l.warp (l.passes - l.made) l.first l.active (seen g.R.Rng.stream l.project l.state);
}
