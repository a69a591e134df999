-- The level that is made of what a text tells, and whether its block can keep that; for private functions.
use Rattle.std.specs.Prelude.{ℕ, Bool, true, false, Option, Some, None, ◌&&◌, ◌||◌, not}
use Rattle.std.specs.List.{list_all}
use Rattle.opcode_table.specs.declared.kinds.Kind.{Kind}
use Rattle.machine_spec.specs.declared.threads.Context.{Context}
use Rattle.machine_spec.specs.declared.threads.Context.TheVariants as context
use Rattle.machine_spec.specs.declared.threads.Status.{Status}
use Rattle.machine_spec.specs.declared.threads.Status.TheVariants.{Running, YieldTick, PromiseWait, Done}
use Rattle.machine_spec.specs.Called.{called_by}
use Rattle.machine_spec.specs.Program.{Program, Procedure}
use Rattle.machine_spec.specs.Threads.{Params}
use Rattle.project_spec.specs.declared.blocks.Block.{Block}
use Rattle.project_spec.specs.Trees.{call_code}
use Rattle.thread_frames.specs.Fit.{kind_of}
use Rattle.thread_frames.specs.declared.level.Level.{Level}
use Rattle.saved_spec.specs.Kept.{Kept, Nothing, Loop, Repeat, Wait, Glide, Started, Asked, Spoken, Call, SavedLevel}
use Rattle.saved_spec.specs.Rules.{is_short, values_kept}
use Rattle.saved_spec.specs.ThreadRules.{loops_with, may_keep, is_choice, has_names}
use Rattle.saved_levels.specs.declared.waiting_threads.Waiting.{Waiting}
use Rattle.saved_levels.specs.Waits.{has_asked, has_spoken}

-- the loop mark, the context and the parameters of a level that keeps this

abbrev pub loop_in : Kept → Bool
loop_in Loop = true
loop_in (Repeat turns) = true
loop_in k = false

abbrev pub context_in : Kept → Context
context_in Nothing = context.Fresh
context_in Loop = context.Fresh
context_in (Repeat turns) = context.Repeat turns
context_in (Wait state) = context.Wait state
context_in (Glide state) = context.Glide state
context_in (Started serials) = context.Started serials
context_in Asked = context.Asked
context_in Spoken = context.Spoken
context_in (Call params) = context.Called

abbrev pub params_in : Kept → Option Params
params_in (Call params) = Some params
params_in k = None

-- the level of a block at a flag that keeps this
abbrev pub level_made : Option ℕ → (warp : Bool) → Kept → Level
level_made block w k = record { block = block; is_loop = loop_in k; warp = w; context = context_in k; params = params_in k }

-- the values of its parameters are short
abbrev pub is_short_level : SavedLevel → Bool
is_short_level l = list_all is_short (values_kept l.kept)

-- the procedure that a block of a target calls
abbrev pub called_at : Program → ℕ → Block → Option Procedure
called_at p target b = called_by (kind_of b) p target (call_code b.mutation)

-- a block of this kind, which calls this, keeps that under another level
abbrev pub keeps_under : Kind → Option Procedure → Kept → Bool
keeps_under k q Nothing = is_choice k
keeps_under k q Loop = loops_with k context.Fresh
keeps_under k q (Repeat turns) = loops_with k (context.Repeat turns)
keeps_under k q (Call params) = has_names params q
keeps_under k q kept = false

-- and at the top
abbrev pub keeps_first : (clock : ℕ) → Kind → Option Procedure → Kept → Bool
keeps_first clock k q Nothing = true
keeps_first clock k q Loop = may_keep clock k context.Fresh
keeps_first clock k q (Repeat turns) = may_keep clock k (context.Repeat turns)
keeps_first clock k q (Wait state) = may_keep clock k (context.Wait state)
keeps_first clock k q (Glide state) = may_keep clock k (context.Glide state)
keeps_first clock k q (Started serials) = may_keep clock k (context.Started serials)
keeps_first clock k q Asked = may_keep clock k context.Asked
keeps_first clock k q Spoken = may_keep clock k context.Spoken
keeps_first clock k q (Call params) = has_names params q

-- How the thread stands, by what its top level keeps

abbrev pub keeps_asked : Kept → Bool
keeps_asked Asked = true
keeps_asked k = false

abbrev pub keeps_spoken : Kept → Bool
keeps_spoken Spoken = true
keeps_spoken k = false

abbrev pub keeps_started : Kept → Bool
keeps_started (Started serials) = true
keeps_started k = false

abbrev pub keeps_nothing : Kept → Bool
keeps_nothing Nothing = true
keeps_nothing k = false

abbrev pub status_by : Status → Kept → Bool
status_by Running k = not (keeps_asked k || keeps_spoken k)
status_by YieldTick k = keeps_started k
status_by PromiseWait k = keeps_asked k || keeps_spoken k
status_by Done k = false

-- its status is that of what it keeps, and so are the question and the timer that name it
abbrev pub stands_by : Waiting → (serial : ℕ) → Status → Kept → Bool
stands_by w serial status k = status_by status k && ((not (has_asked w serial) || keeps_asked k) && (not (has_spoken w serial) || keeps_spoken k))
