-- A run as the reference machine sees it, and what it keeps between the lines of a script.
use Rattle.rand_core.specs.Stream.{Stream}
use Rattle.machine_spec.specs.Tasks.{Task}
use Rattle.machine_spec.specs.World.{World}
use Rattle.std.specs.Prelude.{◌<◌, ◌^◌}
use Rattle.project_check.specs.declared.project.Project.{Project}
use Rattle.executions.specs.Seen.{seen}
use Rattle.executions.specs.Resting.{IsIdle}
use Rattle.sequencer.specs.declared.run.Run.{Run}

-- the world, with each thread's levels as what it has still to do
abbrev pub world_of : {R : Type 0} → (R → Stream) → Project → Run R → World Task
world_of stream p r = seen stream p r.state

-- the run is one of this project
pub record IsRunOf {R : Type 0} (p : Project) (r : Run R) : Type 0 where
  pub idle : IsIdle p r.state
  pub few : r.state.frame < 2 ^ 62
