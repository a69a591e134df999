-- The rows of control, events, procedures and of the commands of sensing (after scratch-vm, blocks/scratch3_control.js,
-- scratch3_event.js, scratch3_procedures.js, scratch3_sensing.js).
use Rattle.std.specs.Prelude.{ℕ, zero, suc, pos, negsuc, List, [], ◌∷◌, ◌++◌, codes, bytes_eq, Bool, true, false, not, ◌&&◌, ◌||◌, Option, Some, None, unwrap_or, if◌then◌else◌}
use Rattle.opcode_table.specs.declared.opcode.Opcode.{Opcode}
use Rattle.opcode_table.specs.declared.opcode.Opcode.TheVariants.{ControlForever, ControlRepeat, ControlRepeatUntil, ControlIf, ControlIfElse, ControlWait, ControlWaitUntil, ControlStop, ControlCreateCloneOf, ControlDeleteThisClone, EventBroadcast, EventBroadcastAndWait, ProceduresCall, SensingAskAndWait, SensingResetTimer}
use Rattle.scratch_number.specs.declared.number.Num.{Num}
use Rattle.scratch_number.specs.declared.number.Num.TheVariants.{Fixed, Inf, NegInf, Nan}
use Rattle.scratch_number.specs.Number.{floor_by}
use Rattle.scratch_number.specs.Arithmetic.{round}
use Rattle.scratch_values.specs.Named.{Arguments, item_named, with_param}
use Rattle.scratch_values.specs.declared.value.Value.{Value}
use Rattle.machine_spec.specs.Outcome.{Outcome, Goes, then_do}
use Rattle.machine_spec.specs.Program.{Program, Procedure, procedure, definition_of, sprite_named}
use Rattle.machine_spec.specs.Threads.{Params, Count, Whole, Infinite, Context, Fresh, Repeat, Wait, Started, Asked, Called, Broadcast, Control, Next, Branch, Yield, Promise, Call, StopThis, StopOthers, StopAll, DeleteClone, Start, Clone, Listed, among, wait_for}
use Rattle.machine_spec.specs.Stores.{Question, instance_at, is_on_stage, less, from_zero, elapsed}
use Rattle.machine_spec.specs.BubbleText.{cut}
use Rattle.machine_spec.specs.declared.bubble.Say.TheVariants as say
use Rattle.machine_spec.specs.View.{Row, number_at, text_at, truth_at, field_at}
use Rattle.machine_spec.specs.Parts.{Scene, bubble_updated}

-- a row that changes no part of the world
abbrev pub only : Context → Control → Scene → Row Scene
only c control s = record { parts = s; context = c; control = control; redraw = false }

-- Loops and waiting

abbrev pub branch_if : (again is_loop : Bool) → Control
branch_if again is_loop = if again then Branch 1 is_loop else Next

-- the rounded number of turns
abbrev pub count_of : Num → Count
count_of (Fixed z) = Whole (floor_by z 1000000)
count_of Inf = Infinite
count_of NegInf = Whole (negsuc 0)
count_of Nan = Whole (pos 0)

abbrev pub turns_left : Context → Num → Count
turns_left (Repeat left) n = left
turns_left _ n = count_of (round n)

-- the counter falls by one; the branch is entered where it is not below 0 then
abbrev pub repeat_row : Count → Scene → Row Scene
repeat_row Infinite s = only (Repeat Infinite) (Branch 1 true) s
repeat_row (Whole (pos zero)) s = only Fresh Next s
repeat_row (Whole (pos (suc n))) s = only (Repeat (Whole (pos n))) (Branch 1 true) s
repeat_row (Whole (negsuc n)) s = only Fresh Next s

-- first the clock and the duration are kept, with a redraw request; later it yields while less time has gone by
abbrev pub wait_row : Context → Num → Scene → Row Scene
wait_row (Wait k) n s =
    if less (elapsed k.start s.devices) k.duration then only (Wait k) Yield s else only Fresh Next s
wait_row _ n s = record { parts = s; context = Wait (record { start = s.devices.clock; duration = from_zero n }); control = Yield; redraw = true }

-- Stopping, clones, broadcasts

abbrev pub stop_control : List ℕ → Control
stop_control what =
    if bytes_eq what (codes "all") then StopAll
    else (if bytes_eq what (codes "this script") then StopThis
    else (if bytes_eq what (codes "other scripts in sprite") || bytes_eq what (codes "other scripts in stage") then StopOthers
    else Next))

abbrev pub clone_some : Option ℕ → Control
clone_some None = Next
clone_some (Some n) = Clone n

-- `_myself_` or the sprite of that name
abbrev pub clone_control : Program → ℕ → List ℕ → Control
clone_control p here name = if bytes_eq name (codes "_myself_") then Clone here else clone_some (sprite_named name p.records)

-- first the hats are started; then it goes on, yields or yields a tick by the threads that were started
abbrev pub broadcast_and_wait : List Listed → Context → List ℕ → Scene → Row Scene
broadcast_and_wait threads (Started serials) message s = only (Started serials) (wait_for (among threads serials)) s
broadcast_and_wait threads _ message s = only Fresh (Start (Broadcast message) true) s

-- Procedures

-- for each argument id, under its name, the input of that id, or the default
abbrev pub params_from : Arguments → (ids names : List (List ℕ)) → List Value → Params → Params
params_from a (id ∷ ids) (name ∷ names) (d ∷ ds) ps = params_from a ids names ds (with_param name (unwrap_or (item_named id a.values) d) ps)
params_from a _ _ _ ps = ps

abbrev pub params_of : Procedure → Arguments → Params
params_of q a = params_from a q.ids q.names q.defaults []

-- a call of no procedure does nothing
abbrev pub call_some : Option Procedure → Arguments → Scene → Row Scene
call_some None a s = only Fresh Next s
call_some (Some q) a s = only Called (Call (definition_of q) (params_of q a)) s

-- nor does a call that has returned
abbrev pub call_row : Context → Option Procedure → Arguments → Scene → Row Scene
call_row Called q a s = only Fresh Next s
call_row _ q a s = call_some q a s

-- Questions

-- the first question is shown: as a bubble of its sprite where it says so
abbrev pub question_shown : List Question → Scene → Outcome Scene
question_shown [] s = Goes s
question_shown (q ∷ qs) s = if q.bubble then bubble_updated q.of say.Say (cut q.text) s else Goes s

-- a question behind the others
abbrev pub asked : Question → Scene → Scene
asked q s = record s { devices = record s.devices { questions = s.devices.questions ++ q ∷ [] } }

-- where it is the first it is shown
abbrev pub ask_row : Question → List Question → Scene → Outcome (Row Scene)
ask_row q [] s = then_do (question_shown (q ∷ []) (asked q s)) (λ v. Goes (record { parts = v; context = Asked; control = Promise; redraw = q.bubble }))
ask_row q (first ∷ qs) s = Goes (only Asked Promise (asked q s))

-- it is shown as a bubble where its sprite is visible now and not the stage
abbrev pub question : Program → (here thread : ℕ) → List ℕ → Scene → Question
question p here thread text s =
    let i = instance_at here s.targets
    in record { of = here; thread = thread; text = text; bubble = i.visible && not (is_on_stage i p.records) }

abbrev pub timer_reset : Scene → Scene
timer_reset s = record s { devices = record s.devices { timer = s.devices.clock } }

-- The rows; `code` is that of a call, `thread` the running thread's serial

abbrev pub control_row : Program → List Listed → Opcode → (code : List ℕ) → Arguments → (here thread : ℕ) → Context → Scene → Outcome (Row Scene)
control_row p threads ControlForever code a here thread c s = Goes (only Fresh (Branch 1 true) s)
control_row p threads ControlRepeat code a here thread c s = Goes (repeat_row (turns_left c (number_at (codes "TIMES") a)) s)
control_row p threads ControlRepeatUntil code a here thread c s = Goes (only Fresh (branch_if (not (truth_at (codes "CONDITION") a)) true) s)
control_row p threads ControlIf code a here thread c s = Goes (only Fresh (branch_if (truth_at (codes "CONDITION") a) false) s)
control_row p threads ControlIfElse code a here thread c s = Goes (only Fresh (Branch (if truth_at (codes "CONDITION") a then 1 else 2) false) s)
control_row p threads ControlWait code a here thread c s = Goes (wait_row c (number_at (codes "DURATION") a) s)
control_row p threads ControlWaitUntil code a here thread c s = Goes (only Fresh (if truth_at (codes "CONDITION") a then Next else Yield) s)
control_row p threads ControlStop code a here thread c s = Goes (only Fresh (stop_control (field_at (codes "STOP_OPTION") a)) s)
control_row p threads ControlCreateCloneOf code a here thread c s = Goes (only Fresh (clone_control p here (text_at (codes "CLONE_OPTION") a)) s)
control_row p threads ControlDeleteThisClone code a here thread c s = Goes (only Fresh DeleteClone s)
control_row p threads EventBroadcast code a here thread c s = Goes (only Fresh (Start (Broadcast (text_at (codes "BROADCAST_INPUT") a)) false) s)
control_row p threads EventBroadcastAndWait code a here thread c s = Goes (broadcast_and_wait threads c (text_at (codes "BROADCAST_INPUT") a) s)
control_row p threads ProceduresCall code a here thread c s = Goes (call_row c (procedure (instance_at here s.targets).of code p) a s)
control_row p threads SensingAskAndWait code a here thread c s = ask_row (question p here thread (text_at (codes "QUESTION") a) s) s.devices.questions s
control_row p threads SensingResetTimer code a here thread c s = Goes (only Fresh Next (timer_reset s))
control_row p threads _ code a here thread c s = Goes (only Fresh Next s)
