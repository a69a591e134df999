-- What a command can keep, by its kind: with the loop mark of its level, at the top and under another level, and behind
-- each control (scratch-vm, engine/thread.js, the executionContext of a stack frame).
use Rattle.std.specs.Prelude.{pos, Bool, true, false, ◌&&◌, ◌∷◌}
use Rattle.opcode_table.specs.declared.kinds.Kind.{Kind}
use Rattle.opcode_table.specs.declared.kinds.Kind.TheVariants.{Choice, Endless, Counted, Calls, Waits, Glides, Starts, Asks, Speaks, Plain}
use Rattle.machine_spec.specs.declared.threads.Count.{Count}
use Rattle.machine_spec.specs.declared.threads.Count.TheVariants.{Whole, Infinite}
use Rattle.machine_spec.specs.declared.threads.Context.{Context}
use Rattle.machine_spec.specs.declared.threads.Context.TheVariants.{Fresh, Repeat, Wait, Glide, Started, Asked, Spoken, Called}
use Rattle.machine_spec.specs.declared.threads.Control.{Control}
use Rattle.machine_spec.specs.declared.threads.Control.TheVariants.{Branch, Yield, YieldTick, Promise, Call, Start}

abbrev pub is_called : Context → Bool
is_called Called = true
is_called _ = false

-- it waits for threads that it started
abbrev pub is_started : Context → Bool
is_started (Started serials) = true
is_started _ = false

-- no fewer than 0 turns are left
abbrev pub is_left : Count → Bool
is_left (Whole (pos n)) = true
is_left Infinite = true
is_left _ = false

-- under another level: a choice, a loop with its mark, or a call
abbrev pub under_fits : Context → (is_loop : Bool) → Kind → Bool
under_fits Fresh false Choice = true
under_fits Fresh true Endless = true
under_fits (Repeat n) true Counted = is_left n
under_fits Called false Calls = true
under_fits _ _ _ = false

-- at the top: what was not executed keeps nothing; a loop that was has its mark; a wait keeps what it waits for; a call
-- whose procedure was left has called
abbrev pub top_fits : Context → (is_loop : Bool) → Kind → Bool
top_fits Fresh false k = true
top_fits Fresh true Endless = true
top_fits (Repeat n) true Counted = is_left n
top_fits (Wait state) false Waits = true
top_fits (Glide state) false Glides = true
top_fits (Started (n ∷ ns)) false Starts = true
top_fits Asked false Asks = true
top_fits Spoken false Speaks = true
top_fits Called false Calls = true
top_fits _ _ _ = false

-- a level without a block keeps nothing
abbrev pub empty_fits : Context → (is_loop : Bool) → Bool
empty_fits Fresh false = true
empty_fits _ _ = false

abbrev pub is_calls : Kind → Bool
is_calls Calls = true
is_calls _ = false

abbrev pub is_starts : Kind → Bool
is_starts Starts = true
is_starts _ = false

-- kinds with branches
abbrev pub has_branches : Kind → Bool
has_branches Choice = true
has_branches Endless = true
has_branches Counted = true
has_branches _ = false

-- kinds that may yield or wait
abbrev pub may_wait : Kind → Bool
may_wait Waits = true
may_wait Glides = true
may_wait Starts = true
may_wait Asks = true
may_wait Speaks = true
may_wait Plain = true
may_wait _ = false

-- the controls that a command of this kind can give, each with what it then keeps
abbrev pub control_fits : Control → Kind → Context → Bool
control_fits (Branch number is_loop) k c = has_branches k && under_fits c is_loop k
control_fits Yield k c = may_wait k && top_fits c false k
control_fits YieldTick k c = may_wait k && top_fits c false k
control_fits Promise k c = may_wait k && top_fits c false k
control_fits (Call definition params) k c = is_calls k && is_called c
control_fits (Start hats true) k c = is_starts k
control_fits _ k c = true
