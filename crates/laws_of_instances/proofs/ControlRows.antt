-- The rows of control, events, procedures and sensing keep instances legal: a question may be shown as a bubble.
use Rattle.std.proofs.Common.{ℕ, zero, suc, Bool, true, false, if◌then◌else◌, List, [], ◌∷◌, Option, Some, None}
use Rattle.std.specs.Prelude.{codes, pos, negsuc}
use Rattle.opcode_table.specs.declared.opcode.Opcode.{Opcode}
use Rattle.opcode_table.specs.declared.opcode.Opcode.TheVariants.{ControlRepeat, ControlWait, EventBroadcastAndWait, ProceduresCall, SensingAskAndWait, ControlForever, ControlRepeatUntil, ControlIf, ControlIfElse, ControlWaitUntil, ControlStop, ControlCreateCloneOf, ControlDeleteThisClone, EventBroadcast, SensingResetTimer}
use Rattle.scratch_number.specs.declared.number.Num.{Num}
use Rattle.scratch_values.specs.Named.{Arguments}
use Rattle.machine_spec.specs.declared.devices.Question.{Question}
use Rattle.machine_spec.specs.declared.threads.Context.{Context}
use Rattle.machine_spec.specs.declared.threads.Context.TheVariants.{Fresh, Wait, Started, Called}
use Rattle.machine_spec.specs.declared.threads.Control.TheVariants.{Next, Yield}
use Rattle.machine_spec.specs.declared.threads.Count.{Count}
use Rattle.machine_spec.specs.declared.threads.Count.TheVariants.{Whole, Infinite}
use Rattle.machine_spec.specs.declared.threads.WaitState.{WaitState}
use Rattle.machine_spec.specs.ControlRows.{only, turns_left, repeat_row, wait_row, broadcast_and_wait, call_some, call_row, question_shown, asked, ask_row, question, control_row}
use Rattle.machine_spec.specs.Outcome.{IfGoes}
use Rattle.machine_spec.specs.Parts.{Scene}
use Rattle.machine_spec.specs.Program.{Program, Procedure, procedure}
use Rattle.machine_spec.specs.Stores.{instance_at, elapsed, less}
use Rattle.machine_spec.specs.Threads.{Listed}
use Rattle.machine_spec.specs.View.{Row, number_at, text_at}
use Rattle.laws_of_threads.proofs.RowFits.{goes_then}
use Rattle.laws_of_instances.proofs.Bubbles.{IsSceneCast, shown_cast}

module _ (p : Program) (s : Scene) (h : IsSceneCast p s) where
  abbrev Kept : Row Scene → Type 0
  Kept r = IsSceneCast p r.parts

  repeat_cast : (n : Count) → Kept (repeat_row n s)
  repeat_cast Infinite = h
  repeat_cast (Whole (pos zero)) = h
  repeat_cast (Whole (pos (suc n))) = h
  repeat_cast (Whole (negsuc n)) = h

  waits_by : (c : Bool) (k : WaitState) → Kept (if c then only (Wait k) Yield s else only Fresh Next s)
  waits_by true k = h
  waits_by false k = h

  wait_cast : (c : Context) (n : Num) → Kept (wait_row c n s)
  wait_cast (Wait k) n = waits_by (less (elapsed k.start s.devices) k.duration) k
  wait_cast c n = h

  broadcast_cast : (ts : List Listed) (c : Context) (message : List ℕ) → Kept (broadcast_and_wait ts c message s)
  broadcast_cast ts (Started serials) message = h
  broadcast_cast ts c message = h

  call_some_cast : (q : Option Procedure) (a : Arguments) → Kept (call_some q a s)
  call_some_cast None a = h
  call_some_cast (Some q) a = h

  call_cast : (c : Context) (q : Option Procedure) (a : Arguments) → Kept (call_row c q a s)
  call_cast Called q a = h
  call_cast c q a = call_some_cast q a

  ask_cast : (q : Question) (qs : List Question) → IfGoes (ask_row q qs s) Kept
  ask_cast q [] = goes_then (question_shown (q ∷ []) (asked q s)) _ (IsSceneCast p) Kept (shown_cast p (q ∷ []) (asked q s) h) (λ v g. g)
  ask_cast q (first ∷ qs) = h

  pub control_cast : (ts : List Listed) (op : Opcode) (code : List ℕ) (a : Arguments) (here thread : ℕ) (c : Context) → IfGoes (control_row p ts op code a here thread c s) Kept
  control_cast ts ControlForever code a here thread c = h
  control_cast ts ControlRepeat code a here thread c = repeat_cast (turns_left c (number_at (codes "TIMES") a))
  control_cast ts ControlRepeatUntil code a here thread c = h
  control_cast ts ControlIf code a here thread c = h
  control_cast ts ControlIfElse code a here thread c = h
  control_cast ts ControlWait code a here thread c = wait_cast c (number_at (codes "DURATION") a)
  control_cast ts ControlWaitUntil code a here thread c = h
  control_cast ts ControlStop code a here thread c = h
  control_cast ts ControlCreateCloneOf code a here thread c = h
  control_cast ts ControlDeleteThisClone code a here thread c = h
  control_cast ts EventBroadcast code a here thread c = h
  control_cast ts EventBroadcastAndWait code a here thread c = broadcast_cast ts c (text_at (codes "BROADCAST_INPUT") a)
  control_cast ts ProceduresCall code a here thread c = call_cast c (procedure (instance_at here s.targets).of code p) a
  control_cast ts SensingAskAndWait code a here thread c = ask_cast (question p here thread (text_at (codes "QUESTION") a) s) s.devices.questions
  control_cast ts SensingResetTimer code a here thread c = h
  control_cast ts op code a here thread c = h
