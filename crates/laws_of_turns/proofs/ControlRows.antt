-- The rows of control, events, procedures and sensing keep instances, turns and parameters within the limit.
use Rattle.std.proofs.Common.{ℕ, zero, suc, Bool, true, false, not, if◌then◌else◌, List, [], ◌∷◌, Option, Some, None, arith}
use Rattle.std.specs.Prelude.{pos, negsuc, codes, bytes_eq, unwrap_or, ◌||◌, IfSome}
use Rattle.std.proofs.lemmas.Int.{ints}
use Rattle.opcode_table.specs.declared.opcode.Opcode.{Opcode}
use Rattle.opcode_table.specs.declared.opcode.Opcode.TheVariants.{ControlForever, ControlRepeat, ControlRepeatUntil, ControlIf, ControlIfElse, ControlWait, ControlWaitUntil, ControlStop, ControlCreateCloneOf, ControlDeleteThisClone, EventBroadcast, EventBroadcastAndWait, ProceduresCall, SensingAskAndWait, SensingResetTimer}
use Rattle.scratch_number.specs.declared.number.Num.{Num}
use Rattle.scratch_number.specs.declared.number.Num.TheVariants.{Fixed, Inf, NegInf, Nan}
use Rattle.scratch_number.specs.Number.{IsWithin}
use Rattle.scratch_number.specs.Arithmetic.{round}
use Rattle.scratch_values.specs.declared.value.Value.{Value}
use Rattle.scratch_values.specs.Named.{Arguments, item_named, with_param}
use Rattle.machine_spec.specs.Outcome.{IfGoes}
use Rattle.machine_spec.specs.Program.{Program, Procedure, procedure, sprite_named}
use Rattle.machine_spec.specs.Threads.{Params, Listed, among, wait_for}
use Rattle.machine_spec.specs.declared.threads.Count.{Count}
use Rattle.machine_spec.specs.declared.threads.Count.TheVariants.{Whole, Infinite}
use Rattle.machine_spec.specs.declared.threads.Context.{Context}
use Rattle.machine_spec.specs.declared.threads.Context.TheVariants.{Fresh, Repeat, Wait, Glide, Started, Asked, Spoken, Called}
use Rattle.machine_spec.specs.declared.threads.Control.{Control}
use Rattle.machine_spec.specs.declared.threads.Control.TheVariants.{Next, Branch, Yield}
use Rattle.machine_spec.specs.declared.bubble.Say.TheVariants as say
use Rattle.machine_spec.specs.declared.devices.Question.{Question}
use Rattle.machine_spec.specs.Stores.{instance_at, elapsed, less}
use Rattle.machine_spec.specs.BubbleText.{cut}
use Rattle.machine_spec.specs.Parts.{Scene}
use Rattle.machine_spec.specs.View.{Row, number_at, text_at, truth_at, field_at}
use Rattle.machine_spec.specs.ControlRows.{only, branch_if, count_of, turns_left, repeat_row, wait_row, stop_control, clone_some, clone_control, broadcast_and_wait, params_from, call_some, call_row, question_shown, asked, ask_row, question, control_row}
use Rattle.laws_of_threads.specs.Lists.{Each}
use Rattle.laws_of_threads.proofs.RowFits.{goes_then}
use Rattle.laws_of_turns.specs.Within.{IsValueWithin, IsCountWithin, IsContextWithin, AreParamsWithin, IsProgramWithin}
use Rattle.laws_of_turns.proofs.Numbers.{round_within}
use Rattle.laws_of_turns.proofs.Lists.{if_has, unwrap_has, named_has, found_has}
use Rattle.laws_of_turns.proofs.Values.{AreArgumentsWithin, number_at_within}
use Rattle.laws_of_turns.proofs.Rows.{IsControlWithin, IsRowWithin, if_goes}
use Rattle.laws_of_turns.proofs.LooksRows.{IsSceneWithin, updated_within, wait_within}

abbrev IsControlRow : Row Scene → Type 0
IsControlRow x = IsRowWithin IsSceneWithin x

only_within : (c : Context) (control : Control) (s : Scene) → IsContextWithin c → IsControlWithin control → IsSceneWithin s → IsControlRow (only c control s)
only_within c control s g k h = record { parts = h; context = g; control = k }

-- Loops and waiting

branch_if_within : (b is_loop : Bool) → IsControlWithin (branch_if b is_loop)
branch_if_within true is_loop = tt
branch_if_within false is_loop = tt

count_within : (n : Num) → IsWithin n → IsCountWithin (count_of n)
count_within (Fixed (pos n)) h = omega (arith, ints, h)
count_within (Fixed (negsuc n)) h = omega (arith, ints, h)
count_within Inf h = tt
count_within NegInf h = omega (arith, ints)
count_within Nan h = omega (arith, ints)

turns_within : (c : Context) (n : Num) → IsContextWithin c → IsWithin n → IsCountWithin (turns_left c n)
turns_within (Repeat left) n g h = g
turns_within c n g h = count_within (round n) (round_within n h)

repeat_within : (n : Count) (s : Scene) → IsCountWithin n → IsSceneWithin s → IsControlRow (repeat_row n s)
repeat_within Infinite s g h = only_within (Repeat Infinite) (Branch 1 true) s tt tt h
repeat_within (Whole (pos zero)) s g h = only_within Fresh Next s tt tt h
repeat_within (Whole (pos (suc n))) s g h = only_within (Repeat (Whole (pos n))) (Branch 1 true) s (omega (arith, ints, g)) tt h
repeat_within (Whole (negsuc n)) s g h = only_within Fresh Next s tt tt h

wait_row_within : (c : Context) (n : Num) (s : Scene) → IsSceneWithin s → IsControlRow (wait_row c n s)
wait_row_within (Wait k) n s h = if_has IsControlRow (less (elapsed k.start s.devices) k.duration) _ _ (only_within (Wait k) Yield s tt tt h) (only_within Fresh Next s tt tt h)
wait_row_within c n s h = record { parts = h; context = tt; control = tt }

-- Stopping, clones, broadcasts

stop_within : (what : List ℕ) → IsControlWithin (stop_control what)
stop_within what =
    if_has IsControlWithin (bytes_eq what (codes "all")) _ _ tt
    (if_has IsControlWithin (bytes_eq what (codes "this script")) _ _ tt
    (if_has IsControlWithin (bytes_eq what (codes "other scripts in sprite") || bytes_eq what (codes "other scripts in stage")) _ _ tt tt))

clone_some_within : (o : Option ℕ) → IsControlWithin (clone_some o)
clone_some_within None = tt
clone_some_within (Some n) = tt

clone_within : (p : Program) (here : ℕ) (name : List ℕ) → IsControlWithin (clone_control p here name)
clone_within p here name = if_has IsControlWithin (bytes_eq name (codes "_myself_")) _ _ tt (clone_some_within (sprite_named name p.records))

broadcast_within : (threads : List Listed) (c : Context) (message : List ℕ) (s : Scene) → IsSceneWithin s → IsControlRow (broadcast_and_wait threads c message s)
broadcast_within threads (Started serials) message s h = only_within (Started serials) (wait_for (among threads serials)) s tt (wait_within (among threads serials)) h
broadcast_within threads c message s h = record { parts = h; context = tt; control = tt }

-- Procedures

param_if : (b : Bool) (name : List ℕ) (v : Value) (x : List ℕ × Value) (ps : Params) → IsValueWithin v → IsValueWithin x.1 → AreParamsWithin ps → AreParamsWithin (with_param name v ps)
    → AreParamsWithin (if b then (x.0, v) ∷ ps else x ∷ with_param name v ps)
param_if true name v x ps g k h m = (g, h)
param_if false name v x ps g k h m = (k, m)

param_within : (name : List ℕ) (v : Value) (ps : Params) → IsValueWithin v → AreParamsWithin ps → AreParamsWithin (with_param name v ps)
param_within name v [] g h = (g, tt)
param_within name v (x ∷ ps) g h = param_if (bytes_eq x.0 name) name v x ps g h.0 h.1 (param_within name v ps g h.1)

params_from_within : (a : Arguments) (ids names : List (List ℕ)) (ds : List Value) (ps : Params) → AreArgumentsWithin a → Each IsValueWithin ds → AreParamsWithin ps → AreParamsWithin (params_from a ids names ds ps)
params_from_within a [] names ds ps g k h = h
params_from_within a (id ∷ ids) [] ds ps g k h = h
params_from_within a (id ∷ ids) (name ∷ names) [] ps g k h = h
params_from_within a (id ∷ ids) (name ∷ names) (d ∷ ds) ps g k h =
    params_from_within a ids names ds (with_param name (unwrap_or (item_named id a.values) d) ps) g k.1
    (param_within name (unwrap_or (item_named id a.values) d) ps (unwrap_has IsValueWithin (item_named id a.values) d (named_has IsValueWithin id a.values g) k.0) h)

abbrev HasDefaultsWithin : Procedure → Type 0
HasDefaultsWithin q = Each IsValueWithin q.defaults

call_some_within : (o : Option Procedure) (a : Arguments) (s : Scene) → IfSome o HasDefaultsWithin → AreArgumentsWithin a → IsSceneWithin s → IsControlRow (call_some o a s)
call_some_within None a s k g h = only_within Fresh Next s tt tt h
call_some_within (Some q) a s k g h = record { parts = h; context = tt; control = params_from_within a q.ids q.names q.defaults [] g k tt }

call_within : (c : Context) (o : Option Procedure) (a : Arguments) (s : Scene) → IfSome o HasDefaultsWithin → AreArgumentsWithin a → IsSceneWithin s → IsControlRow (call_row c o a s)
call_within Called o a s k g h = only_within Fresh Next s tt tt h
call_within Fresh o a s k g h = call_some_within o a s k g h
call_within (Repeat n) o a s k g h = call_some_within o a s k g h
call_within (Wait n) o a s k g h = call_some_within o a s k g h
call_within (Glide n) o a s k g h = call_some_within o a s k g h
call_within (Started n) o a s k g h = call_some_within o a s k g h
call_within Asked o a s k g h = call_some_within o a s k g h
call_within Spoken o a s k g h = call_some_within o a s k g h

-- Questions

pub shown_within : (qs : List Question) (s : Scene) → IsSceneWithin s → IfGoes (question_shown qs s) IsSceneWithin
shown_within [] s h = h
shown_within (q ∷ qs) s h = if_goes q.bubble _ _ IsSceneWithin (updated_within q.of say.Say (cut q.text) s h) h

ask_within : (q : Question) (qs : List Question) (s : Scene) → IsSceneWithin s → IfGoes (ask_row q qs s) IsControlRow
ask_within q [] s h = goes_then (question_shown (q ∷ []) (asked q s)) _ IsSceneWithin IsControlRow (shown_within (q ∷ []) (asked q s) h) (λ v k. record { parts = k; context = tt; control = tt })
ask_within q (first ∷ qs) s h = record { parts = h; context = tt; control = tt }

module _ (p : Program) (good : IsProgramWithin p) (threads : List Listed) (code : List ℕ) (here thread : ℕ) where
  defaults_within : (k : ℕ) → IfSome (procedure k code p) HasDefaultsWithin
  defaults_within k = found_has HasDefaultsWithin (λ q. bytes_eq q.code code) _ (good.defaults k)

  pub control_row_within : (op : Opcode) (a : Arguments) (c : Context) (s : Scene) → AreArgumentsWithin a → IsContextWithin c → IsSceneWithin s → IfGoes (control_row p threads op code a here thread c s) IsControlRow
  control_row_within ControlForever a c s g k h = only_within Fresh (Branch 1 true) s tt tt h
  control_row_within ControlRepeat a c s g k h = repeat_within (turns_left c (number_at (codes "TIMES") a)) s (turns_within c (number_at (codes "TIMES") a) k (number_at_within (codes "TIMES") a g)) h
  control_row_within ControlRepeatUntil a c s g k h = only_within Fresh _ s tt (branch_if_within (not (truth_at (codes "CONDITION") a)) true) h
  control_row_within ControlIf a c s g k h = only_within Fresh _ s tt (branch_if_within (truth_at (codes "CONDITION") a) false) h
  control_row_within ControlIfElse a c s g k h = record { parts = h; context = tt; control = tt }
  control_row_within ControlWait a c s g k h = wait_row_within c (number_at (codes "DURATION") a) s h
  control_row_within ControlWaitUntil a c s g k h = only_within Fresh _ s tt (if_has IsControlWithin (truth_at (codes "CONDITION") a) Next Yield tt tt) h
  control_row_within ControlStop a c s g k h = only_within Fresh _ s tt (stop_within (field_at (codes "STOP_OPTION") a)) h
  control_row_within ControlCreateCloneOf a c s g k h = only_within Fresh _ s tt (clone_within p here (text_at (codes "CLONE_OPTION") a)) h
  control_row_within ControlDeleteThisClone a c s g k h = record { parts = h; context = tt; control = tt }
  control_row_within EventBroadcast a c s g k h = record { parts = h; context = tt; control = tt }
  control_row_within EventBroadcastAndWait a c s g k h = broadcast_within threads c (text_at (codes "BROADCAST_INPUT") a) s h
  control_row_within ProceduresCall a c s g k h = call_within c (procedure (instance_at here s.targets).of code p) a s (defaults_within (instance_at here s.targets).of) g h
  control_row_within SensingAskAndWait a c s g k h = ask_within (question p here thread (text_at (codes "QUESTION") a) s) s.devices.questions s h
  control_row_within SensingResetTimer a c s g k h = record { parts = h; context = tt; control = tt }
  control_row_within op a c s g k h = record { parts = h; context = tt; control = tt }
