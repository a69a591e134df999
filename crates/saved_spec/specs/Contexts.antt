-- What the blocks of a saved run keep (docs/formats.md, section 5).
use Rattle.std.specs.Prelude.{ℕ, List, [], ◌∷◌, codes, Bool, true, false}
use Rattle.serde_json.specs.Data.{Data, null, string}
use Rattle.scratch_values.specs.declared.value.Value.{Value}
use Rattle.machine_spec.specs.declared.threads.Count.{Count}
use Rattle.machine_spec.specs.declared.threads.Count.TheVariants.{Whole, Infinite}
use Rattle.machine_spec.specs.declared.threads.WaitState.{WaitState}
use Rattle.machine_spec.specs.declared.threads.GlideState.{GlideState}
use Rattle.machine_spec.specs.declared.threads.Context.{Context}
use Rattle.machine_spec.specs.declared.threads.Context.TheVariants.{Fresh, Repeat, Wait, Glide, Started, Asked, Spoken, Called}
use Rattle.machine_spec.specs.Threads.{Params}
use Rattle.saved_spec.specs.Rows.{whole, signed, row, word_row, each}
use Rattle.saved_spec.specs.Values.{num, value}

-- the turns that are left
abbrev pub count : Count → Data
count (Whole turns) = signed turns
count Infinite = string (codes "inf")

-- a parameter's name and its value
abbrev pub param : List ℕ × Value → Data
param p = row (string p.0 ∷ value p.1 ∷ [])

abbrev pub wait : WaitState → Data
wait w = row (string (codes "wait") ∷ whole w.start ∷ num w.duration ∷ [])

abbrev pub glide : GlideState → Data
glide g = row (string (codes "glide") ∷ whole g.start ∷ num g.duration ∷ num g.x0 ∷ num g.y0 ∷ num g.x1 ∷ num g.y1 ∷ [])

abbrev pub repeat : Count → Data
repeat turns = row (string (codes "repeat") ∷ count turns ∷ [])

-- the numbers of the threads that were started
abbrev pub started : List ℕ → Data
started serials = row (string (codes "started") ∷ each whole serials ∷ [])

abbrev pub call : Params → Data
call params = row (string (codes "call") ∷ each param params ∷ [])

-- nothing is kept: under a loop mark it is a loop that was executed
abbrev pub fresh : (is_loop : Bool) → Data
fresh true = word_row (codes "loop")
fresh false = null

-- what a block keeps, by its loop mark and the parameters of its call
abbrev pub context : (is_loop : Bool) → Params → Context → Data
context is_loop params Fresh = fresh is_loop
context is_loop params (Repeat turns) = repeat turns
context is_loop params (Wait state) = wait state
context is_loop params (Glide state) = glide state
context is_loop params (Started serials) = started serials
context is_loop params Asked = word_row (codes "asked")
context is_loop params Spoken = word_row (codes "spoken")
context is_loop params Called = call params
