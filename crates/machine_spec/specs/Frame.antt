-- A frame: due bubble timers, edge hats, passes (after scratch-vm, engine/runtime.js, _step, and engine/sequencer.js).
use Rattle.std.specs.Prelude.{ℕ, zero, suc, remove, ◌+◌, ◌==◌, List, [], ◌∷◌, length, filter, codes, nat_lt, Bool, true, false, not, ◌||◌, ◌&&◌, Option, Some, None, if◌then◌else◌}
use Rattle.std.specs.List.{list_any}
use Rattle.opcode_table.specs.declared.hats.HatKind.{HatKind}
use Rattle.opcode_table.specs.declared.hats.HatKind.TheVariants.{EdgeHat}
use Rattle.opcode_table.specs.Kinds.{hat_kind}
use Rattle.script_words.specs.declared.stops.CounterKind.TheVariants as counter
use Rattle.scratch_number.specs.declared.number.Num.{Num}
use Rattle.machine_spec.specs.declared.lines.Budget.{Budget}
use Rattle.machine_spec.specs.Outcome.{Outcome, Goes, then_do, with_number}
use Rattle.machine_spec.specs.Script.{Statement, op_of, inputs_of}
use Rattle.machine_spec.specs.Program.{Program, hat_block}
use Rattle.machine_spec.specs.Stores.{Instance, BubbleTimer, Devices, live, on_instance, elapsed, less, seconds}
use Rattle.machine_spec.specs.View.{View, number_at}
use Rattle.machine_spec.specs.Evaluate.{arguments_of, values}
use Rattle.machine_spec.specs.Starting.{Pair, pairs, is_alive_of, same_folded, hat_field}
use Rattle.machine_spec.specs.Stopping.{scene_of, with_scene, bubble_emptied}
use Rattle.machine_spec.specs.Tasks.{Task, tasks, begin_pairs, resumed}
use Rattle.machine_spec.specs.World.{World}
use Rattle.machine_spec.specs.Slice.{go_on, pass, most_slices, without_done}

-- Bubble timers

-- due where its time is not after the clock
abbrev pub is_due : ℕ → BubbleTimer → Bool
is_due clock t = not (less (seconds clock) t.due)

-- a timer and its place
pub record Found : Type 0 where
  pub at : ℕ
  pub timer : BubbleTimer

-- of two due timers the one with the lesser time, the first where they are equal
abbrev pub sooner : Found → Option Found → Option Found
sooner x None = Some x
sooner x (Some y) = if less y.timer.due x.timer.due then Some y else Some x

-- the due timer that ends first; n is the place of the first of these
abbrev pub next_due : (clock n : ℕ) → List BubbleTimer → Option Found
next_due clock n [] = None
next_due clock n (t ∷ ts) =
    if is_due clock t then sooner (record { at = n; timer = t }) (next_due clock (suc n) ts) else next_due clock (suc n) ts

abbrev pub without_timer : ℕ → World Task → World Task
without_timer k w = record w { devices = record w.devices { timers = remove w.devices.timers k } }

abbrev pub still_fits : BubbleTimer → Option Instance → Bool
still_fits t None = false
still_fits t (Some i) = i.bubble.usage == t.usage

-- its bubble is emptied where its usage is still the timer's; then its thread is resumed
abbrev pub timer_ended : BubbleTimer → World Task → Outcome (World Task)
timer_ended t w =
    then_do (if still_fits t (live t.of w.targets) then bubble_emptied t.of (scene_of w) else Goes (scene_of w))
    (λ s. Goes (resumed t.thread (with_scene w s)))

abbrev pub end_due : Option Found → World Task → (World Task → Outcome (World Task)) → Outcome (World Task)
end_due None w rest = Goes w
end_due (Some x) w rest = then_do (timer_ended x.timer (without_timer x.at w)) rest

-- at most n due timers end, one after another
unfoldable pub timers_ended : ℕ → World Task → Outcome (World Task)
timers_ended zero w = Goes w
timers_ended (suc n) w = end_due (next_due w.devices.clock 0 w.devices.timers) w (timers_ended n)

-- Edge hats

abbrev pub is_edge_hat : HatKind → Bool
is_edge_hat EdgeHat = true
is_edge_hat _ = false

-- the edge hats of which no listed thread is alive
abbrev pub edges : Program → World Task → List Pair
edges p w =
    filter (λ x. not (list_any (is_alive_of tasks x) w.threads.list))
    (pairs p (λ s. is_edge_hat (hat_kind (op_of s))) w.targets)

-- whether an edge hat is true: of the timer where it is above VALUE, of all else never
abbrev pub edge_value : Statement → Num → Devices → Bool
edge_value s limit d = same_folded (hat_field (codes "WHENGREATERTHANMENU") s) (codes "timer") && less limit (elapsed d.timer d)

-- the recorded value of a block; where there is none it is false
abbrev pub recorded : ℕ → List (ℕ × Bool) → Bool
recorded block [] = false
recorded block (x ∷ xs) = if x.0 == block then x.1 else recorded block xs

-- the value of a block recorded, blocks rising
abbrev pub with_edge : ℕ → Bool → List (ℕ × Bool) → List (ℕ × Bool)
with_edge block v [] = (block, v) ∷ []
with_edge block v (x ∷ xs) =
    if x.0 == block then (block, v) ∷ xs else (if nat_lt block x.0 then (block, v) ∷ x ∷ xs else x ∷ with_edge block v xs)

abbrev pub edges_of : Option Instance → List (ℕ × Bool)
edges_of None = []
edges_of (Some i) = i.edges

abbrev pub edge_noted : Pair → Bool → World Task → World Task
edge_noted x v w = record w { targets = on_instance x.of (λ i. record i { edges = with_edge (hat_block x.head) v i.edges }) w.targets }

abbrev pub edge_fired : Bool → Pair → World Task → Outcome (World Task)
edge_fired true x w = then_do (begin_pairs None (x ∷ []) w) (λ b. Goes b.world)
edge_fired false x w = Goes w

-- the value is recorded; a thread is appended where it is true and was not before
abbrev pub edge_passed : Pair → Bool → World Task → Outcome (World Task)
edge_passed x v w = edge_fired (v && not (recorded (hat_block x.head) (edges_of (live x.of w.targets)))) x (edge_noted x v w)

abbrev pub edge_view : Program → ℕ → World Task → View
edge_view p here w = record { records = p.records; targets = w.targets; variables = w.variables; devices = w.devices; here = here; params = [] }

-- the inputs of one edge hat are evaluated, whatever its field
abbrev pub edge_one : Program → Pair → World Task → Outcome (World Task)
edge_one p x w =
    then_do (values (edge_view p x.of w) (inputs_of x.head.hat) w.words)
    (λ d. edge_passed x (edge_value x.head.hat (number_at (codes "VALUE") (arguments_of x.head.hat d.value)) w.devices) (record w { words = d.words }))

abbrev pub edges_passed : Program → List Pair → World Task → Outcome (World Task)
edges_passed p [] w = Goes w
edges_passed p (x ∷ xs) w = then_do (edge_one p x w) (edges_passed p xs)

-- Passes

abbrev pub is_empty : {A : Type 0} → List A → Bool
is_empty [] = true
is_empty (x ∷ xs) = false

-- passes go on while the list is not empty, the last one had an active thread, and turbo is on or no redraw is requested
abbrev pub passes_go_on : (active : Bool) → World Task → Bool
passes_go_on active w = not (is_empty w.threads.list) && active && (w.devices.turbo || not w.redraw)

-- at most n passes
unfoldable pub passes : Program → (budget n : ℕ) → (first active : Bool) → World Task → Outcome (World Task)
passes p budget zero first active w = Goes w
passes p budget (suc n) first active w =
    go_on (passes_go_on active w)
    (λ v. then_do (pass p first budget most_slices 0 v false) (λ x. passes p budget n false x.active (without_done x.world)))
    (λ v. Goes v) w

-- The frame

abbrev pub at_clock : ℕ → World Task → World Task
at_clock clock w = record w { devices = record w.devices { clock = clock } }

abbrev pub numbered : World Task → Outcome (World Task)
numbered w = with_number counter.Frame w.frame (Goes (record w { frame = w.frame + 1 }))

-- the clock is set, due timers end, edge hats are evaluated, the redraw request is cleared, passes are made, and the
-- frame gets its number
abbrev pub frame : Program → Budget → World Task → Outcome (World Task)
frame p b w =
    then_do (timers_ended (length w.devices.timers) (at_clock b.clock w))
    (λ x. then_do (edges_passed p (edges p x) x)
    (λ y. then_do (passes p b.warp b.passes true true (record y { redraw = false })) numbered))
