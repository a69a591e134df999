-- Laws of the saved run, as statements that public functions with empty bodies prove.
use Rattle.std.specs.Prelude.{◌≡◌, ℕ, false, List}
use Rattle.std.specs.List.{All}
use Rattle.machine_spec.specs.Threads.{is_done}
use Rattle.machine_spec.specs.World.{World, seen_world}
use Rattle.project_spec.specs.Trees.{Sheet}
use Rattle.thread_frames.specs.Fit.{Fits}
use Rattle.thread_frames.specs.Reading as reading
use Rattle.thread_frames.specs.Threads.{Thread}
use Rattle.saved_spec.specs.Ranges.{IsRun, IsTask}
use Rattle.saved_text.specs.Ranges.{IsThread}
use Rattle.saved_spec.specs.Saved.{snapshot, saved}
use Rattle.saved_spec.specs.Tasks.{task}
use Rattle.saved_text.specs.Threads.{thread}

-- a thread whose levels fit the blocks of its target, and which is not done
pub record IsKept (sheets : ℕ → Sheet) (t : Thread) : Type 0 where
  pub fits : Fits sheets t
  pub alive : is_done t.status ≡ false

-- what the levels of its threads have still to do is saved as the levels are
abbrev pub SavesWhatIsLeft : Type 0
SavesWhatIsLeft =
    (sheets : ℕ → Sheet) (digest : List ℕ) (seed : ℕ) (w : World Thread) → All (IsKept sheets) w.threads.list
    → saved task (snapshot digest seed (seen_world (reading.task sheets) w)) ≡ saved thread (snapshot digest seed w)

-- what the levels of its threads have still to do is in range where the levels are
abbrev pub RangesOfWhatIsLeft : Type 0
RangesOfWhatIsLeft =
    (sheets : ℕ → Sheet) (digest : List ℕ) (seed : ℕ) (w : World Thread) → All (IsKept sheets) w.threads.list
    → IsRun IsThread (snapshot digest seed w) → IsRun IsTask (snapshot digest seed (seen_world (reading.task sheets) w))
