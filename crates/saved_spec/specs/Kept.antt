-- The threads of a saved run as its text tells them (docs/formats.md, section 5): their levels by the numbers of their
-- blocks, each with what its block keeps.
use Rattle.std.specs.Prelude.{ℕ, List, [], ◌∷◌, codes, map, filter, reverse, Option, Some, None}
use Rattle.serde_json.specs.Data.{Data, null}
use Rattle.machine_spec.specs.declared.threads.Count.{Count}
use Rattle.machine_spec.specs.declared.threads.WaitState.{WaitState}
use Rattle.machine_spec.specs.declared.threads.GlideState.{GlideState}
use Rattle.machine_spec.specs.declared.threads.Context.{Context}
use Rattle.machine_spec.specs.declared.threads.Context.TheVariants as context
use Rattle.machine_spec.specs.declared.threads.Status.{Status}
use Rattle.machine_spec.specs.Script.{Statement, place_of}
use Rattle.machine_spec.specs.Threads.{Params}
use Rattle.machine_spec.specs.Pending.{Item, Do, Held, Returned, Branch, Again, Back}
use Rattle.machine_spec.specs.Tasks.{Task}
use Rattle.saved_spec.specs.Rows.{row, word_row, each}
use Rattle.saved_spec.specs.Contexts as contexts
use Rattle.saved_spec.specs.Tasks.{is_marker}
use Rattle.saved_spec.specs.Threads.{block, thread_of}

-- what the block of a level keeps. `Nothing`: it was not executed, or it is a choice with an open branch. `Loop`: a loop
-- that has no number of turns.
pub data Kept : Type 0 where
  Nothing : Kept
  Loop : Kept
  Repeat : (turns : Count) → Kept
  Wait : (state : WaitState) → Kept
  Glide : (state : GlideState) → Kept
  Started : (serials : List ℕ) → Kept
  Asked : Kept
  Spoken : Kept
  Call : (params : Params) → Kept

-- a level: its block, if something is left to do, and what that keeps
pub record SavedLevel : Type 0 where
  pub block : Option ℕ
  pub kept : Kept

-- a thread: its number, instance, hat block and status, and its levels, the top one first
pub record SavedThread : Type 0 where
  pub serial : ℕ
  pub of : ℕ
  pub hat : ℕ
  pub status : Status
  pub levels : List SavedLevel

-- How they are written

abbrev pub kept : Kept → Data
kept Nothing = null
kept Loop = word_row (codes "loop")
kept (Repeat turns) = contexts.repeat turns
kept (Wait state) = contexts.wait state
kept (Glide state) = contexts.glide state
kept (Started serials) = contexts.started serials
kept Asked = word_row (codes "asked")
kept Spoken = word_row (codes "spoken")
kept (Call params) = contexts.call params

abbrev pub level : SavedLevel → Data
level l = row (block l.block ∷ kept l.kept ∷ [])

abbrev pub thread : SavedThread → Data
thread t = thread_of t.hat t.serial t.of t.status (each level (reverse t.levels))

-- What the text of a thread of the machine tells

-- what a statement keeps that was executed
abbrev pub kept_of : Context → Kept
kept_of context.Fresh = Loop
kept_of (context.Repeat turns) = Repeat turns
kept_of (context.Wait state) = Wait state
kept_of (context.Glide state) = Glide state
kept_of (context.Started serials) = Started serials
kept_of context.Asked = Asked
kept_of context.Spoken = Spoken
kept_of context.Called = Call []

abbrev pub level_at : Statement → Kept → SavedLevel
level_at s k = record { block = Some (place_of s).block; kept = k }

abbrev pub level_of : Item → SavedLevel
level_of (Do s) = level_at s Nothing
level_of (Held s c) = level_at s (kept_of c)
level_of (Returned s params) = level_at s (Call params)
level_of (Branch s warp) = level_at s Nothing
level_of (Again s c warp) = level_at s (kept_of c)
level_of (Back s params warp) = level_at s (Call params)

-- the first item is the top level, each marker behind it a level under that; where nothing is left there is one level
abbrev pub levels_of : List Item → List SavedLevel
levels_of [] = record { block = None; kept = Nothing } ∷ []
levels_of (x ∷ rest) = level_of x ∷ map level_of (filter is_marker rest)

abbrev pub thread_told : Task → SavedThread
thread_told t = record { serial = t.serial; of = t.of; hat = t.hat; status = t.status; levels = levels_of t.items }
