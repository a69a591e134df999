-- What the levels of a player's thread are that a saved thread tells.
use Rattle.std.specs.Prelude.{◌≡◌, ℕ, true, false, List, length, reverse, Option, Some, None, option_map, Vec}
use Rattle.std.specs.declared.alloc.Global.{Global}
use Rattle.machine_spec.specs.Tasks.{Task}
use Rattle.project_check.specs.declared.project.Project.{Project}
use Rattle.project_check.specs.Loaded.{sheet_at, basis_of}
use Rattle.thread_frames.specs.declared.level.Level.{Level}
use Rattle.thread_frames.specs.Levels.{warp_flag}
use Rattle.thread_frames.specs.Fit.{IsAtRest}
use Rattle.thread_frames.specs.Reading.{pending}
use Rattle.saved_spec.specs.Kept.{SavedThread, thread_told}
use Rattle.saved_spec.specs.Legal.{IsLegalThread}
use Rattle.saved_spec.specs.Levels.{left_of, thread_is_well}
use Rattle.saved_spec.specs.Rules.{target_of}
use Rattle.saved_spec.specs.RunShapes.{Told}

-- the thread of the machine with these levels
abbrev pub task_with : Project → ℕ → SavedThread → List Level → Task
task_with p target x levels = record {
  serial = x.serial;
  of = x.of;
  hat = x.hat;
  status = x.status;
  warp = warp_flag levels;
  items = pending (sheet_at target p) levels;
}

-- a thread of a run that keeps the rules: its levels are at rest, what they have still to do is what the rules say, and the
-- thread of the machine with them is legal and tells the saved one
pub record IsMade (p : Project) (t : Told) (x : SavedThread) (levels : List Level) : Type 0 where
  pub well : thread_is_well (basis_of p) t x ≡ true
  pub left : left_of (basis_of p) t x ≡ Some (pending (sheet_at (target_of t x) p) levels)
  pub rest : IsAtRest (sheet_at (target_of t x) p) levels
  pub count : length levels ≡ length x.levels
  pub told : thread_told (task_with p (target_of t x) x levels) ≡ x
  pub legal : IsLegalThread (basis_of p) t.run.targets t.run.devices (task_with p (target_of t x) x levels)

-- levels that are given from the bottom, the top one first
abbrev pub top_first : Option (Vec Level Global) → Option (List Level)
top_first o = option_map (λ levels. reverse levels.items) o

-- there are such levels, or the thread breaks a rule
abbrev pub IsRead : Project → Told → SavedThread → Option (List Level) → Type 0
IsRead p t x (Some levels) = IsMade p t x levels
IsRead p t x None = thread_is_well (basis_of p) t x ≡ false
