-- The thread of a slot that goes on; private functions alone cite it.
use Rattle.std.specs.Prelude.{◌≡◌, ℕ, List, Some, slice_get}
use Rattle.machine_spec.specs.declared.threads.Which.TheVariants.{Slot}
use Rattle.machine_spec.specs.Places.{Places, put}
use Rattle.machine_spec.specs.declared.threads.Status.TheVariants.{Running}
use Rattle.thread_frames.specs.declared.level.Level.{Level}
use Rattle.thread_frames.specs.Threads.{Thread}
use Rattle.thread_moves.specs.Resuming.{IsResumed}
use Rattle.project_check.specs.declared.project.Project.{Project}
use Rattle.executions.specs.Seen.{sheets}

abbrev pub running_with : List Level → Thread → Thread
running_with levels t = record t { levels = levels; status = Running }

-- it is running, and its levels stand behind the block that waited
pub record IsResumedAt (p : Project) (slot : ℕ) (old new : Places Thread) : Type 0 where
  pub before : Thread
  pub found : slice_get old.list slot ≡ Some before
  pub levels : List Level
  pub new_is : new ≡ put (Slot slot) (running_with levels before) old
  pub resumed : IsResumed (sheets p before.target) before.levels levels
