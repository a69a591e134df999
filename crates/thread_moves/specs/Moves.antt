-- A thread that was moved in its place: its levels, and how it stands.
use Rattle.std.specs.Prelude.{◌≡◌, ℕ, Bool, false, List, ◌++◌, Some}
use Rattle.machine_spec.specs.Script.{Script, Then, Statement}
use Rattle.machine_spec.specs.Threads.{is_done}
use Rattle.machine_spec.specs.declared.threads.Report.{Report}
use Rattle.machine_spec.specs.declared.threads.Which.{Which}
use Rattle.machine_spec.specs.Pending.{Item, Position, dos}
use Rattle.machine_spec.specs.Places.{Places, at_place, put, on_place}
use Rattle.machine_spec.specs.Tasks.{status_after}
use Rattle.project_spec.specs.Trees.{script}
use Rattle.project_check.specs.declared.project.Project.{Project}
use Rattle.project_check.specs.Loaded.{sheet_at}
use Rattle.thread_frames.specs.declared.level.Level.{Level}
use Rattle.thread_frames.specs.Levels.{without_top, warp_flag}
use Rattle.thread_frames.specs.Reading.{beneath}
use Rattle.thread_frames.specs.Threads.{Thread, levels_of, on_levels}
use Rattle.thread_moves.specs.Standing.{IsAt, TopHolds}

-- the thread at a place holds block k at its top; what the block kept may have been taken out
pub record IsAtBlock (p : Project) (which : Which) (ts : Places Thread) (target k : ℕ) : Type 0 where
  pub thread : Thread
  pub found : at_place which ts ≡ Some thread
  pub target_is : thread.target ≡ target
  pub alive : is_done thread.status ≡ false
  pub top : TopHolds (sheet_at target p) thread.levels k

abbrev pub with_levels : List Level → Report → Thread → Thread
with_levels levels report t = record t { levels = levels; status = status_after report }

-- the thread at a place stands at this position now, and nothing else was changed
pub record Moved (p : Project) (which : Which) (old new : Places Thread) (at : Position) (report : Report) : Type 0 where
  pub before : Thread
  pub found : at_place which old ≡ Some before
  pub levels : List Level
  pub new_is : new ≡ put which (with_levels levels report before) old
  pub stands : IsAt (sheet_at before.target p) at levels report

-- it had the statement of block k first
abbrev pub MovesOn : Project → Which → (target k : ℕ) → (Statement → List Item → Bool → Position) → (old new : Places Thread) → Report → Type 0
MovesOn p which target k at old new report =
    (s : Statement) (rest : Script) → script (sheet_at target p) (Some k) ≡ Then s rest
    → Moved p which old new (at s (dos rest ++ beneath (sheet_at target p) (without_top (levels_of (at_place which old)))) (warp_flag (levels_of (at_place which old)))) report

-- the levels of the thread at a place
abbrev pub levels_at : Which → Places Thread → List Level
levels_at which ts = levels_of (at_place which ts)

-- nothing but the levels of the thread at a place was changed
abbrev pub OnlyLevels : Which → (old new : Places Thread) → Type 0
OnlyLevels which old new = new ≡ on_place (on_levels (λ ls. levels_at which new)) which old
