-- The edge hats that are left, from the run so far, are all edge hats of the list.
use Rattle.std.proofs.Common.{◌≡◌, drop}
use Rattle.machine_spec.specs.Frame.{edges, edges_passed}
use Rattle.machine_spec.specs.Starting.{Pair}
use Rattle.project_check.specs.Loaded.{program_of}
use Rattle.hats.specs.Edges.{free_edges}
use Rattle.hats.specs.Heads.{IsHeadOf}
use Rattle.executions.specs.Resting.{IsIdle}
use Rattle.executions.specs.Seen.{seen}
use Rattle.frames.proofs.edge_hats.pass_list.Given as goal

abbrev pub invariant-loop-edge : goal.invariant-loop-edge
invariant-loop-edge g l = record {
  idle : IsIdle l.project l.state;
  heads : (x : Pair) → IsHeadOf l.project l.fn.state.targets x → IsHeadOf l.project l.state.targets x;
  walk : edges_passed (program_of l.project) (drop l.edge-index (free_edges (program_of l.project) l.fn.state.targets l.fn.state.threads)) (seen g.R.Rng.stream l.project l.state)
      ≡ edges_passed (program_of l.project) (edges (program_of l.project) (seen g.R.Rng.stream l.project l.fn.state)) (seen g.R.Rng.stream l.project l.fn.state);
}
