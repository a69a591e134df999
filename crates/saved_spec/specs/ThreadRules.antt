-- The rules on what a thread has still to do (docs/formats.md, section 5), read on its pending list: the items from one
-- marker up to the next, and the statement of that marker, are one level.
use Rattle.std.specs.Prelude.{ℕ, ◌==◌, nat_le, pos, int_lt, int_le, List, [], ◌∷◌, map, bytes_eq, Bool, true, false, not, ◌&&◌, ◌||◌, Option, Some, None}
use Rattle.std.specs.List.{list_any, list_all}
use Rattle.opcode_table.specs.declared.kinds.Kind.{Kind}
use Rattle.opcode_table.specs.declared.kinds.Kind.TheVariants.{Choice, Endless, Counted, Waits, Glides, Starts, Asks, Speaks}
use Rattle.opcode_table.specs.Kinds.{kind}
use Rattle.scratch_number.specs.declared.number.Num.{Num}
use Rattle.scratch_number.specs.declared.number.Num.TheVariants.{Fixed, Inf, NegInf, Nan}
use Rattle.machine_spec.specs.declared.threads.Context.{Context}
use Rattle.machine_spec.specs.declared.threads.Context.TheVariants.{Fresh, Repeat, Wait, Glide, Started, Asked, Spoken}
use Rattle.machine_spec.specs.declared.threads.Status.{Status}
use Rattle.machine_spec.specs.declared.threads.Status.TheVariants.{Running, YieldTick, PromiseWait, Done}
use Rattle.machine_spec.specs.Called.{called}
use Rattle.machine_spec.specs.Keeping.{is_left}
use Rattle.machine_spec.specs.Legal.{distinct, waits_for_started}
use Rattle.machine_spec.specs.Pending.{Item, Do, Held, Returned, Branch, Again, Back}
use Rattle.machine_spec.specs.Program.{Program, Procedure}
use Rattle.machine_spec.specs.Script.{op_of}
use Rattle.machine_spec.specs.Stores.{Devices}
use Rattle.machine_spec.specs.Threads.{Params}

-- What a block keeps

-- a time that a wait can last
abbrev pub is_from_zero : Num → Bool
is_from_zero (Fixed z) = int_le (pos 0) z
is_from_zero Inf = true
is_from_zero NegInf = false
is_from_zero Nan = false

-- a time that a glide can last: one that takes no time is over at once
abbrev pub is_above_zero : Num → Bool
is_above_zero (Fixed z) = int_lt (pos 0) z
is_above_zero Inf = true
is_above_zero NegInf = false
is_above_zero Nan = false

abbrev pub is_some_thread : List ℕ → Bool
is_some_thread [] = false
is_some_thread (n ∷ ns) = true

-- a loop is executed again with this: forever and repeat until with nothing, a repeat with the turns that are left
abbrev pub loops_with : Kind → Context → Bool
loops_with Endless Fresh = true
loops_with Counted (Repeat turns) = is_left turns
loops_with k c = false

-- a block that was executed keeps this: a loop as above; a wait and a glide when they began, and how long they last; a
-- block that waits for threads which those are; an ask and a bubble that they wait
abbrev pub may_keep : (clock : ℕ) → Kind → Context → Bool
may_keep clock Waits (Wait w) = nat_le w.start clock && is_from_zero w.duration
may_keep clock Glides (Glide g) = nat_le g.start clock && is_above_zero g.duration
may_keep clock Starts (Started serials) = is_some_thread serials
may_keep clock Asks Asked = true
may_keep clock Speaks Spoken = true
may_keep clock k c = loops_with k c

abbrev pub same_texts : List (List ℕ) → List (List ℕ) → Bool
same_texts [] [] = true
same_texts (t ∷ ts) (u ∷ us) = bytes_eq t u && same_texts ts us
same_texts ts us = false

-- the parameters of a call have the names of the prototype, each once, in order; the procedure is defined
abbrev pub has_names : Params → Option Procedure → Bool
has_names params None = false
has_names params (Some q) = same_texts (map (λ x. x.0) params) (distinct q.names)

-- The first item, and the markers

abbrev pub is_choice : Kind → Bool
is_choice Choice = true
is_choice k = false

-- the first item: a block that was not executed, or one that keeps what its kind keeps, or a call that was left
abbrev pub first_fits : Program → (clock : ℕ) → Item → Bool
first_fits p clock (Do s) = true
first_fits p clock (Held s c) = may_keep clock (kind (op_of s)) c
first_fits p clock (Returned s params) = has_names params (called p s)
first_fits p clock (Branch s warp) = false
first_fits p clock (Again s c warp) = false
first_fits p clock (Back s params warp) = false

-- a level under another: a choice with an open branch, a loop, or a call
abbrev pub marker_fits : Program → Item → Bool
marker_fits p (Do s) = true
marker_fits p (Held s c) = false
marker_fits p (Returned s params) = false
marker_fits p (Branch s warp) = is_choice (kind (op_of s))
marker_fits p (Again s c warp) = loops_with (kind (op_of s)) c
marker_fits p (Back s params warp) = has_names params (called p s)

abbrev pub items_fit : Program → (clock : ℕ) → List Item → Bool
items_fit p clock [] = true
items_fit p clock (x ∷ rest) = first_fits p clock x && list_all (marker_fits p) rest

-- How a thread stands

-- the thread waits for an answer
abbrev pub is_asked : List Item → Bool
is_asked (Held s Asked ∷ rest) = true
is_asked items = false

-- the thread waits for the end of its bubble
abbrev pub is_spoken : List Item → Bool
is_spoken (Held s Spoken ∷ rest) = true
is_spoken items = false

-- a thread waits exactly where it has asked or spoken, and ticks only where it waits for threads; none is done
abbrev pub status_fits : Status → List Item → Bool
status_fits Running items = not (is_asked items || is_spoken items)
status_fits YieldTick items = waits_for_started items
status_fits PromiseWait items = is_asked items || is_spoken items
status_fits Done items = false

-- a thread that a question names has asked, and one that a timer names has spoken
abbrev pub promises_fit : Devices → (serial : ℕ) → List Item → Bool
promises_fit d serial items =
    (not (list_any (λ q. q.thread == serial) d.questions) || is_asked items)
    && (not (list_any (λ t. t.thread == serial) d.timers) || is_spoken items)

-- all of these
abbrev pub stands_well : Program → Devices → (serial : ℕ) → Status → List Item → Bool
stands_well p d serial status items = items_fit p d.clock items && status_fits status items && promises_fit d serial items
