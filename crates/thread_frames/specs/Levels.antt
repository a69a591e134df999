-- The levels of a thread, the top one first, and what is done with them (scratch-vm, engine/thread.js, its stack).
pub use Rattle.thread_frames.specs.declared.level.Level.{Level}
pub use Rattle.shared_stacks.specs.Chains.{without_top}
use Rattle.std.specs.Prelude.{ℕ, Bool, true, false, not, ◌&&◌, if◌then◌else◌, List, [], ◌∷◌, Option, Some, None, is_some}
use Rattle.machine_spec.specs.declared.threads.Context.{Context}
use Rattle.machine_spec.specs.declared.threads.Context.TheVariants.{Fresh}
use Rattle.machine_spec.specs.Keeping.{is_called}
use Rattle.machine_spec.specs.Threads.{Params}

-- a level that was just opened
abbrev pub new_level : Option ℕ → (warp : Bool) → Level
new_level block warp = record { block = block; is_loop = false; warp = warp; context = Fresh; params = None }

-- a level that has gone on to the next block; its warp flag stays
abbrev pub at_next : Option ℕ → Level → Level
at_next next l = record { block = next; is_loop = false; warp = l.warp; context = Fresh; params = None }

abbrev pub with_loop : Bool → Level → Level
with_loop is_loop l = record l { is_loop = is_loop }

abbrev pub with_context : Context → Level → Level
with_context c l = record l { context = c }

abbrev pub with_params : Params → Level → Level
with_params params l = record l { params = Some params }

-- the top level changed, where there is one
abbrev pub on_top : (Level → Level) → List Level → List Level
on_top f [] = []
on_top f (top ∷ under) = f top ∷ under

-- the levels from the nearest one, from the top, that has called
abbrev pub from_call : List Level → List Level
from_call [] = []
from_call (l ∷ ls) = if is_called l.context then l ∷ ls else from_call ls

-- the top level is given up, and then all down to one that has called
abbrev pub unwound : List Level → List Level
unwound levels = from_call (without_top levels)

-- the warp flag of the top level; that of a thread without levels is false
abbrev pub warp_flag : List Level → Bool
warp_flag [] = false
warp_flag (top ∷ under) = top.warp

-- a branch is opened over the block of the top level, which keeps a loop mark and a context; the warp flag stays
abbrev pub with_branch : Option ℕ → (is_loop : Bool) → Context → List Level → List Level
with_branch first is_loop c levels = new_level first (warp_flag levels) ∷ on_top (with_context c) (on_top (with_loop is_loop) levels)

-- the loop mark and the block of a level
abbrev pub mark_of : Level → Bool × Option ℕ
mark_of l = (l.is_loop, l.block)

-- what the block of the top level keeps
abbrev pub top_context : List Level → Context
top_context [] = Fresh
top_context (top ∷ under) = top.context

-- the block of the top level
abbrev pub top_block : List Level → Option ℕ
top_block [] = None
top_block (top ∷ under) = top.block

abbrev pub params_or : Option Params → Option Params → Option Params
params_or None rest = rest
params_or (Some params) rest = Some params

-- the parameters of the nearest level, from the top, that has some
abbrev pub near_params : List Level → Option Params
near_params [] = None
near_params (l ∷ ls) = params_or l.params (near_params ls)

-- Private functions alone cite these

-- a block keeps nothing
abbrev pub is_fresh : Context → Bool
is_fresh Fresh = true
is_fresh c = false

-- the block of a level keeps nothing, and has not called
abbrev pub is_plain : Level → Bool
is_plain l = is_fresh l.context && not (is_some l.params)
