-- The rounds of a start, and the heads of an instance that pass a test; private functions alone cite this file.
use Rattle.std.specs.Prelude.{ℕ, ◌<◌, ◌≤◌, ◌^◌, List, [], ◌∷◌, flat_map, reverse, slice_get, Bool, if◌then◌else◌, Option, Some, None}
use Rattle.machine_spec.specs.declared.instance.Instance.{Instance}
use Rattle.machine_spec.specs.declared.threads.Filter.{Filter}
use Rattle.machine_spec.specs.Script.{Statement}
use Rattle.machine_spec.specs.Places.{Places, Everyone}
use Rattle.machine_spec.specs.Starting.{Pair}
use Rattle.project_spec.specs.declared.blocks.Block.{Block}
use Rattle.project_spec.specs.Trees.{Sheet, statement, head_of}
use Rattle.hat_index.specs.ByIndex.{Asked}
use Rattle.hat_index.specs.Hats.{Index}
use Rattle.hat_index.specs.Index.{found}
use Rattle.project_check.specs.declared.project.Project.{Project}
use Rattle.project_check.specs.Loaded.{blocks_at, sheet_at}
use Rattle.thread_frames.specs.Fit.{Fits}
use Rattle.thread_frames.specs.Threads.{Thread}
use Rattle.hats.specs.declared.hat_threads.Hat.{Hat}
use Rattle.hats.specs.declared.hat_threads.Numbers.{Numbers}
use Rattle.hats.specs.declared.hat_rounds.Round.{Round}
use Rattle.hats.specs.Fitting.{is_meant}
use Rattle.hats.specs.Indexed.{hats_of}

-- The heads of an instance that pass a test

-- the head of a block, where it passes
abbrev pub passing_by : Project → (Statement → Bool) → Instance → (id : ℕ) → Option Block → List Pair
passing_by p test i id None = []
passing_by p test i id (Some b) = if test (statement (sheet_at i.of p) id b) then record { of = i.number; head = head_of (sheet_at i.of p) id b } ∷ [] else []

-- the one at the block with a number
abbrev pub passing_at : Project → (Statement → Bool) → Instance → (id : ℕ) → List Pair
passing_at p test i id = passing_by p test i id (slice_get (blocks_at i.of p) id)

-- The hats that a round starts

-- what it asks of the index
abbrev pub asked_in : Round → Asked
asked_in r = record { opcode = r.opcode; folded = r.folded.now }

-- those of an instance
abbrev pub hats_in : Round → Instance → List Hat
hats_in r i = hats_of (found r.index.now) (asked_in r) i

-- those of an instance that the filter speaks of
abbrev pub hats_if_meant : Index → Filter → Asked → Instance → List Hat
hats_if_meant index f a i = if is_meant f i then hats_of index a i else []

-- from the last instance to the first
abbrev pub hats_of_round : Index → Filter → Asked → List Instance → List Hat
hats_of_round index f a is = flat_map (hats_if_meant index f a) (reverse is)

-- what every part of a start keeps: threads that fit blocks do so after, where the blocks under its hats are held
pub record IsKept (held : (ℕ → Sheet) → Type 0) (old new : Places Thread) (before after : Numbers) : Type 0 where
  pub rising : before.next ≤ after.next
  pub few : after.next < 2 ^ 62
  pub fits : (sheets : ℕ → Sheet) → held sheets → Everyone (Fits sheets) old → Everyone (Fits sheets) new
