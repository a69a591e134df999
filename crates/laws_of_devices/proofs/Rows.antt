-- What each row leaves of the devices.
use Rattle.std.proofs.Common.{ℕ, zero, suc, Bool, true, false, List, [], ◌∷◌, ◌++◌, Option, Some, None, option_map, arith}
use Rattle.std.specs.Prelude.{◌≤◌, codes, pos, negsuc}
use Rattle.opcode_table.specs.declared.groups.Group.{Group}
use Rattle.opcode_table.specs.declared.groups.Group.TheVariants.{Motion, Looks, Data, Control}
use Rattle.opcode_table.specs.declared.opcode.Opcode.{Opcode}
use Rattle.opcode_table.specs.declared.opcode.Opcode.TheVariants.{LooksSay, LooksThink, LooksSayForSecs, LooksThinkForSecs, LooksSwitchCostumeTo, LooksSwitchBackdropTo, LooksSwitchBackdropToAndWait, LooksChangeSizeBy, LooksSetSizeTo, LooksChangeEffectBy, LooksSetEffectTo, LooksShow, LooksHide, LooksGoToFrontBack, LooksGoForwardBackwardLayers, ControlRepeat, ControlWait, EventBroadcastAndWait, ProceduresCall, SensingAskAndWait, SensingResetTimer}
use Rattle.opcode_table.specs.Kinds.{group}
use Rattle.scratch_number.specs.declared.number.Num.{Num}
use Rattle.scratch_values.specs.Named.{Arguments}
use Rattle.scratch_values.specs.declared.value.Value.{Value}
use Rattle.machine_spec.specs.ControlRows.{control_row, repeat_row, turns_left, wait_row, broadcast_and_wait, call_row, call_some, ask_row, asked, question, question_shown, timer_reset}
use Rattle.machine_spec.specs.DataRows.{data_row}
use Rattle.machine_spec.specs.Looks.{looks_row, looks_by, on_sprite, own, spoken, shown_bubble, timed_bubble, switched_to, with_costume, with_backdrop, with_words, backdrop_switched, backdrop_and_wait}
use Rattle.machine_spec.specs.Motion.{motion_row}
use Rattle.machine_spec.specs.Outcome.{IfGoes}
use Rattle.machine_spec.specs.Parts.{Scene, LooksParts, bubble_updated}
use Rattle.machine_spec.specs.Program.{Program, Procedure, Records, procedure, stage_number}
use Rattle.machine_spec.specs.Script.{Command}
use Rattle.machine_spec.specs.Step.{Applied, row, row_by}
use Rattle.machine_spec.specs.Stopping.{scene_of}
use Rattle.machine_spec.specs.Stores.{instance_at, is_on_stage, less, elapsed, seconds, from_zero}
use Rattle.machine_spec.specs.Tasks.{Task, listed}
use Rattle.machine_spec.specs.Texts.{bubble_text}
use Rattle.machine_spec.specs.Threads.{Listed}
use Rattle.machine_spec.specs.declared.threads.Count.{Count}
use Rattle.machine_spec.specs.declared.threads.Count.TheVariants.{Whole, Infinite}
use Rattle.machine_spec.specs.View.{Row, number_at, text_at, value_at}
use Rattle.machine_spec.specs.World.{World}
use Rattle.machine_spec.specs.declared.bubble.Say.{Say}
use Rattle.machine_spec.specs.declared.bubble.Say.TheVariants as say
use Rattle.machine_spec.specs.declared.devices.Question.{Question}
use Rattle.machine_spec.specs.declared.instance.Instance.{Instance}
use Rattle.machine_spec.specs.declared.threads.Context.{Context}
use Rattle.machine_spec.specs.declared.threads.Context.TheVariants.{Started, Called, Wait}
use Rattle.laws_of_threads.specs.Instances.{Hosts}
use Rattle.laws_of_threads.proofs.Numbers.{each_append}
use Rattle.laws_of_threads.proofs.RowFits.{goes_then, goes_any}
use Rattle.laws_of_devices.specs.Devices.{IsLegalDesk, IsTimer}
use Rattle.laws_of_devices.proofs.Desks.{either, Kept, with_rest, with_timers, updated_kept, shown_kept, Said, said_kept}
use Rattle.laws_of_devices.proofs.Timing.{sum_due, seconds_due, from_zero_due}

-- Looks

abbrev LooksOf : Row LooksParts → Type 0
LooksOf r = Kept r.parts.scene

module _ (records : Records) (threads : List Listed) (here thread : ℕ) where
  on_sprite_kept : (p : LooksParts) (r : Row LooksParts) → Kept p.scene → LooksOf r → LooksOf (on_sprite records here p r)
  on_sprite_kept p r h k = either LooksOf (is_on_stage (own here p) records) _ _ h k

  looks_by_kept : (o : Option (Instance → Instance)) (p : LooksParts) → Kept p.scene → LooksOf (looks_by o here p)
  looks_by_kept None p h = h
  looks_by_kept (Some f) p h = h

  said : (kind : Say) (a : Arguments) (p : LooksParts) → Kept p.scene → IfGoes (spoken kind a here p (shown_bubble here)) LooksOf
  said kind a p h = goes_then (bubble_updated here kind (bubble_text (value_at (codes "MESSAGE") a)) p.scene) _ Kept LooksOf (updated_kept here kind _ p.scene h) (λ s k. k)

  timed : (target : ℕ) (kind : Say) (secs : Num) (a : Arguments) (p : LooksParts) → Hosts here target p.scene.targets → Kept p.scene → IfGoes (spoken kind a here p (timed_bubble secs here thread)) LooksOf
  timed target kind secs a p g h = goes_then (bubble_updated here kind (bubble_text (value_at (codes "MESSAGE") a)) p.scene) _ (Said here) LooksOf (said_kept here target kind _ p.scene g h)
      (λ s k. let due = sum_due (seconds s.devices.clock) (from_zero secs) (seconds_due s.devices.clock) (from_zero_due secs) in
      with_timers s.devices _ (each_append (IsTimer s.devices.usage) s.devices.timers (_ ∷ []) k.kept.timers (record { updated = k.usage; due = due }, tt)) k.kept)

  backdrop_kept : (o : Option ℕ) (p : LooksParts) → Kept p.scene → Kept (with_backdrop o records p).scene
  backdrop_kept None p h = h
  backdrop_kept (Some k) p h = h

  switched_kept : (wait : Bool) (v : Value) (p : LooksParts) → Kept p.scene → IfGoes (backdrop_switched wait v records p) LooksOf
  switched_kept wait v p h = goes_any (switched_to true v records (own (stage_number records) p) p.words) _ LooksOf (λ d. backdrop_kept d.value (with_words d.words p) h)

  waited_kept : (c : Context) (v : Value) (p : LooksParts) → Kept p.scene → IfGoes (backdrop_and_wait c v records threads p) LooksOf
  waited_kept (Started serials) v p h = h
  waited_kept c v p h = switched_kept true v p h

  looks_kept : (target : ℕ) (op : Opcode) (a : Arguments) (c : Context) (p : LooksParts) → Hosts here target p.scene.targets → Kept p.scene → IfGoes (looks_row records threads op a here thread c p) LooksOf
  looks_kept target LooksSay a c p g h = said say.Say a p h
  looks_kept target LooksThink a c p g h = said say.Think a p h
  looks_kept target LooksSayForSecs a c p g h = timed target say.Say (number_at (codes "SECS") a) a p g h
  looks_kept target LooksThinkForSecs a c p g h = timed target say.Think (number_at (codes "SECS") a) a p g h
  looks_kept target LooksSwitchCostumeTo a c p g h = goes_any (switched_to false (value_at (codes "COSTUME") a) records (own here p) p.words) _ LooksOf (λ d. looks_by_kept (option_map with_costume d.value) (with_words d.words p) h)
  looks_kept target LooksSwitchBackdropTo a c p g h = switched_kept false (value_at (codes "BACKDROP") a) p h
  looks_kept target LooksSwitchBackdropToAndWait a c p g h = waited_kept c (value_at (codes "BACKDROP") a) p h
  looks_kept target LooksChangeSizeBy a c p g h = on_sprite_kept p _ h h
  looks_kept target LooksSetSizeTo a c p g h = on_sprite_kept p _ h h
  looks_kept target LooksChangeEffectBy a c p g h = looks_by_kept _ p h
  looks_kept target LooksSetEffectTo a c p g h = looks_by_kept _ p h
  looks_kept target LooksShow a c p g h = on_sprite_kept p _ h h
  looks_kept target LooksHide a c p g h = on_sprite_kept p _ h h
  looks_kept target LooksGoToFrontBack a c p g h = on_sprite_kept p _ h h
  looks_kept target LooksGoForwardBackwardLayers a c p g h = on_sprite_kept p _ h h
  looks_kept target op a c p g h = h

-- Control

abbrev SceneOf : Row Scene → Type 0
SceneOf r = Kept r.parts

repeat_kept : (n : Count) (s : Scene) → Kept s → SceneOf (repeat_row n s)
repeat_kept Infinite s h = h
repeat_kept (Whole (pos zero)) s h = h
repeat_kept (Whole (pos (suc n))) s h = h
repeat_kept (Whole (negsuc n)) s h = h

wait_kept : (c : Context) (n : Num) (s : Scene) → Kept s → SceneOf (wait_row c n s)
wait_kept (Wait k) n s h = either SceneOf (less (elapsed k.start s.devices) k.duration) _ _ h h
wait_kept c n s h = h

broadcast_kept : (ts : List Listed) (c : Context) (message : List ℕ) (s : Scene) → Kept s → SceneOf (broadcast_and_wait ts c message s)
broadcast_kept ts (Started serials) message s h = h
broadcast_kept ts c message s h = h

some_kept : (q : Option Procedure) (a : Arguments) (s : Scene) → Kept s → SceneOf (call_some q a s)
some_kept None a s h = h
some_kept (Some q) a s h = h

call_kept : (c : Context) (q : Option Procedure) (a : Arguments) (s : Scene) → Kept s → SceneOf (call_row c q a s)
call_kept Called q a s h = h
call_kept c q a s h = some_kept q a s h

asked_kept : (q : Question) (s : Scene) → Kept s → Kept (asked q s)
asked_kept q s h = with_rest s.devices s.devices.answer s.devices.button s.devices.turbo (s.devices.questions ++ q ∷ []) h

ask_kept : (q : Question) (qs : List Question) (s : Scene) → Kept s → IfGoes (ask_row q qs s) SceneOf
ask_kept q [] s h = goes_then (question_shown (q ∷ []) (asked q s)) _ Kept SceneOf (shown_kept (q ∷ []) (asked q s) (asked_kept q s h)) (λ v k. k)
ask_kept q (first ∷ qs) s h = asked_kept q s h

pub same_least : (n : ℕ) → n ≤ n
same_least n = omega arith

reset_kept : (s : Scene) → Kept s → Kept (timer_reset s)
reset_kept s h = record { clock = h.clock; timer = same_least s.devices.clock; mouse_x = h.mouse_x; mouse_y = h.mouse_y; keys = h.keys; differ = h.differ; timers = h.timers; usage = h.usage }

control_kept : (p : Program) (threads : List Listed) (op : Opcode) (code : List ℕ) (a : Arguments) (here thread : ℕ) (c : Context) (s : Scene) → Kept s → IfGoes (control_row p threads op code a here thread c s) SceneOf
control_kept p threads ControlRepeat code a here thread c s h = repeat_kept (turns_left c (number_at (codes "TIMES") a)) s h
control_kept p threads ControlWait code a here thread c s h = wait_kept c (number_at (codes "DURATION") a) s h
control_kept p threads EventBroadcastAndWait code a here thread c s h = broadcast_kept threads c (text_at (codes "BROADCAST_INPUT") a) s h
control_kept p threads ProceduresCall code a here thread c s h = call_kept c (procedure (instance_at here s.targets).of code p) a s h
control_kept p threads SensingAskAndWait code a here thread c s h = ask_kept (question p here thread (text_at (codes "QUESTION") a) s) s.devices.questions s h
control_kept p threads SensingResetTimer code a here thread c s h = reset_kept s h
control_kept p threads op code a here thread c s h = h

-- Worlds

module _ (p : Program) where
  abbrev Legal : Applied → Type 0
  Legal x = IsLegalDesk p x.world

  by_group : (g : Group) (target : ℕ) (d : Command) (a : Arguments) (here thread : ℕ) (c : Context) (w : World Task) → Hosts here target w.targets → IsLegalDesk p w → IfGoes (row_by g p d a here thread c w) Legal
  by_group Motion target d a here thread c w g h = goes_any (motion_row p.records w.devices d.op a here c _) _ Legal
      (λ r. record { devices = h.devices; frames = h.frames; threads = h.threads; instances = h.instances; targets = h.targets })
  by_group Looks target d a here thread c w g h = goes_then (looks_row p.records (listed w) d.op a here thread c _) _ LooksOf Legal (looks_kept p.records (listed w) here thread target d.op a c _ g h.devices)
      (λ r k. record { devices = k; frames = h.frames; threads = h.threads; instances = h.instances; targets = h.targets })
  by_group Data target d a here thread c w g h = goes_any (data_row p.records w.targets d.op a here _) _ Legal
      (λ r. record { devices = h.devices; frames = h.frames; threads = h.threads; instances = h.instances; targets = h.targets })
  by_group Control target d a here thread c w g h = goes_then (control_row p (listed w) d.op d.code a here thread c (scene_of w)) _ SceneOf Legal (control_kept p (listed w) d.op d.code a here thread c (scene_of w) h.devices)
      (λ r k. record { devices = k; frames = h.frames; threads = h.threads; instances = h.instances; targets = h.targets })

  pub row_keeps : (target : ℕ) (d : Command) (a : Arguments) (here thread : ℕ) (c : Context) (w : World Task) → Hosts here target w.targets → IsLegalDesk p w → IfGoes (row p d a here thread c w) Legal
  row_keeps target d a here thread c w g h = by_group (group d.op) target d a here thread c w g h
