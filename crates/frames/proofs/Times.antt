-- No execution changes the number of the frame or the clock, and so no pass, no timer that ends and no edge hat does.
use Rattle.std.proofs.Common.{◌≡◌, ℕ, zero, suc, ◌==◌, Bool, true, false, not, ◌&&◌, ◌||◌, List, [], ◌∷◌, drop, Option, Some, None, pos, negsuc, refl, ◌∙◌}
use Rattle.std.specs.Prelude.{is_some, nat_lt, codes, option_map, slice_index_or, if◌then◌else◌}
use Rattle.opcode_table.specs.declared.opcode.Opcode.{Opcode}
use Rattle.opcode_table.specs.declared.opcode.Opcode.TheVariants.{ControlRepeat, ControlWait, EventBroadcastAndWait, ProceduresCall, SensingAskAndWait, LooksSay, LooksThink, LooksSayForSecs, LooksThinkForSecs, LooksSwitchCostumeTo, LooksSwitchBackdropTo, LooksSwitchBackdropToAndWait, LooksChangeSizeBy, LooksSetSizeTo, LooksChangeEffectBy, LooksSetEffectTo, LooksShow, LooksHide, LooksGoToFrontBack, LooksGoForwardBackwardLayers}
use Rattle.opcode_table.specs.declared.groups.Group.{Group}
use Rattle.opcode_table.specs.declared.groups.Group.TheVariants.{Motion, Looks, Data, Control as ControlGroup}
use Rattle.opcode_table.specs.Kinds.{group}
use Rattle.script_words.specs.declared.stops.CounterKind.{CounterKind}
use Rattle.script_words.specs.declared.stops.CounterKind.TheVariants as counter
use Rattle.scratch_number.specs.declared.number.Num.{Num}
use Rattle.scratch_number.specs.Arithmetic.{add}
use Rattle.scratch_values.specs.Casts.{zero_number}
use Rattle.scratch_values.specs.Named.{Arguments}
use Rattle.scratch_values.specs.declared.value.Value.{Value}
use Rattle.machine_spec.specs.Outcome.{Outcome, Goes, Full, TooLong, Spent, then_do, IfGoes, with_number, with_room, last_number, most_levels}
use Rattle.machine_spec.specs.Script.{Statement, Command, command_of, inputs_of}
use Rattle.machine_spec.specs.Program.{Program, Records, Procedure, procedure, stage_number, hat_block}
use Rattle.machine_spec.specs.Threads.{Params, Listed}
use Rattle.machine_spec.specs.declared.threads.Context.{Context}
use Rattle.machine_spec.specs.declared.threads.Context.TheVariants.{Fresh, Wait, Started, Asked, Called}
use Rattle.machine_spec.specs.declared.threads.Control.{Control}
use Rattle.machine_spec.specs.declared.threads.Control.TheVariants.{Next, Yield, Promise, StopOthers, StopAll, DeleteClone, Start, Clone}
use Rattle.machine_spec.specs.declared.threads.Count.{Count}
use Rattle.machine_spec.specs.declared.threads.Count.TheVariants.{Whole, Infinite}
use Rattle.machine_spec.specs.declared.threads.Filter.TheVariants.{CloneStart}
use Rattle.machine_spec.specs.declared.bubble.Say.{Say}
use Rattle.machine_spec.specs.declared.bubble.Say.TheVariants as say
use Rattle.machine_spec.specs.BubbleText.{cut}
use Rattle.machine_spec.specs.declared.instance.Instance.{Instance}
use Rattle.machine_spec.specs.declared.devices.Question.{Question}
use Rattle.machine_spec.specs.declared.devices.BubbleTimer.{BubbleTimer}
use Rattle.machine_spec.specs.Stores.{live, instance_at, is_on_stage, less, elapsed}
use Rattle.machine_spec.specs.Words.{Drawn}
use Rattle.machine_spec.specs.Texts.{bubble_text}
use Rattle.machine_spec.specs.View.{Row, value_at, number_at, text_at, field_at}
use Rattle.machine_spec.specs.Parts.{Scene, LooksParts, bubble_set, bubble_updated}
use Rattle.machine_spec.specs.Evaluate.{values, evaluated, arguments_of}
use Rattle.machine_spec.specs.Motion.{motion_row}
use Rattle.machine_spec.specs.DataRows.{data_row}
use Rattle.machine_spec.specs.Looks as looks
use Rattle.machine_spec.specs.Looks.{looks_row}
use Rattle.machine_spec.specs.ControlRows.{control_row, only, turns_left, repeat_row, wait_row, broadcast_and_wait, call_some, call_row, question_shown, question, asked, ask_row}
use Rattle.machine_spec.specs.Pending.{Item, Do, Held, Returned, Branch as BranchEnd, Again, Back, Position, gone, settle, params_in}
use Rattle.machine_spec.specs.Places.{place, running}
use Rattle.machine_spec.specs.Starting.{Pair, start_all, starts, finished_of}
use Rattle.machine_spec.specs.Stopping.{scene_of, with_scene, bubble_emptied, first_taken, is_first_of, without_questions, without_timers, questions_dropped, is_clone, disposed, clone_added, placed_behind, has_no_room}
use Rattle.machine_spec.specs.Tasks.{Task, tasks, listed, levels, Begun, begun, begin, begin_pairs, resumed}
use Rattle.machine_spec.specs.World.{World}
use Rattle.machine_spec.specs.Step.{Applied, applied, with_motion, with_looks, with_data, row_by, row, position, opens_level, Moment, moved, moved_with_room, after_start, others_stopped, clone_deleted, cloned, cloned_unless, deleted_if, act, view_of, execute, execute_first, step_by, step}
use Rattle.machine_spec.specs.Slice.{go_on, is_late, counted_after, slice_goes_on, behind, slice_by, executing, most_executions, turn_of, turn_by, turn, woken, without_detached, is_active, visit, Passed, next_place, pass_on, pass, most_slices, without_done}
use Rattle.machine_spec.specs.Frame.{still_fits, timer_ended, without_timer, end_due, next_due, Found, timers_ended, recorded, edges_of, edge_noted, edge_fired, edge_passed, edge_value, edge_view, edge_one, edges_passed, passes_go_on, passes}
use Rattle.frames.specs.Times.{IsSameTime}

-- Outcomes

-- a fact of what comes first is one of what follows it
follows : {A B : Type 0} (o : Outcome A) (f : A → Outcome B) (P : A → Type 0) (Q : B → Type 0) → IfGoes o P → ((x : A) → P x → IfGoes (f x) Q) → IfGoes (then_do o f) Q
follows (Goes x) f P Q h g = g x h
follows Full f P Q h g = tt
follows (TooLong n) f P Q h g = tt
follows (Spent which) f P Q h g = tt

-- whatever comes first
behind_any : {A B : Type 0} (o : Outcome A) (f : A → Outcome B) (Q : B → Type 0) → ((x : A) → IfGoes (f x) Q) → IfGoes (then_do o f) Q
behind_any (Goes x) f Q g = g x
behind_any Full f Q g = tt
behind_any (TooLong n) f Q g = tt
behind_any (Spent which) f Q g = tt

weaker : {A : Type 0} (o : Outcome A) (P Q : A → Type 0) → ((x : A) → P x → Q x) → IfGoes o P → IfGoes o Q
weaker (Goes x) P Q g h = g x h
weaker Full P Q g h = tt
weaker (TooLong n) P Q g h = tt
weaker (Spent which) P Q g h = tt

either_way : {A : Type 0} (b : Bool) (o u : Outcome A) (Q : A → Type 0) → IfGoes o Q → IfGoes u Q → IfGoes (if b then o else u) Q
either_way true o u Q h g = h
either_way false o u Q h g = g

numbered_so : {A : Type 0} (which : CounterKind) (n : ℕ) (o : Outcome A) (Q : A → Type 0) → IfGoes o Q → IfGoes (with_number which n o) Q
numbered_so which n o Q h = either_way (n == last_number) (Spent which) o Q tt h

roomed_so : {A : Type 0} (n : ℕ) (x : A) (Q : A → Type 0) → Q x → IfGoes (with_room n x) Q
roomed_so n x Q h = either_way (nat_lt n most_levels) (Goes x) Full Q h tt

-- Bubbles and questions

abbrev Ticks : Scene → Scene → Type 0
Ticks s v = v.devices.clock ≡ s.devices.clock

bubble_ticks : (here : ℕ) (kind : Say) (text : List ℕ) (s : Scene) → IfGoes (bubble_updated here kind text s) (Ticks s)
bubble_ticks here kind text s =
    either_way (is_some (live here s.targets)) (with_number counter.Bubble s.devices.usage (Goes (bubble_set here kind text s))) (Goes s) (Ticks s)
    (numbered_so counter.Bubble s.devices.usage (Goes (bubble_set here kind text s)) (Ticks s) refl) refl

shown_ticks : (qs : List Question) (s : Scene) → IfGoes (question_shown qs s) (Ticks s)
shown_ticks [] s = refl
shown_ticks (q ∷ qs) s = either_way q.bubble (bubble_updated q.of say.Say (cut q.text) s) (Goes s) (Ticks s) (bubble_ticks q.of say.Say (cut q.text) s) refl

first_ticks : (emptied : Bool) (of : ℕ) (s : Scene) → IfGoes (first_taken emptied of s) (Ticks s)
first_ticks emptied of s =
    follows (if emptied then bubble_emptied of s else Goes s) (λ v. question_shown v.devices.questions v) (Ticks s) (Ticks s)
    (either_way emptied (bubble_emptied of s) (Goes s) (Ticks s) (bubble_ticks of (instance_at of s.targets).bubble.kind [] s) refl)
    (λ v e. weaker (question_shown v.devices.questions v) (Ticks v) (Ticks s) (λ u d. d ∙ e) (shown_ticks v.devices.questions v))

dropped_ticks : (n : ℕ) (s : Scene) → IfGoes (questions_dropped n s) (Ticks s)
dropped_ticks n s =
    either_way (is_first_of n s.devices.questions) (first_taken true n (without_questions n s)) (Goes (without_questions n s)) (Ticks s)
    (first_ticks true n (without_questions n s)) refl

-- Rows of control

abbrev RowTicks : Scene → Row Scene → Type 0
RowTicks s x = x.parts.devices.clock ≡ s.devices.clock

repeat_ticks : (n : Count) (s : Scene) → RowTicks s (repeat_row n s)
repeat_ticks Infinite s = refl
repeat_ticks (Whole (pos zero)) s = refl
repeat_ticks (Whole (pos (suc n))) s = refl
repeat_ticks (Whole (negsuc n)) s = refl

still_waits : (b : Bool) (x y : Row Scene) (s : Scene) → RowTicks s x → RowTicks s y → RowTicks s (if b then x else y)
still_waits true x y s h g = h
still_waits false x y s h g = g

wait_ticks : (c : Context) (n : Num) (s : Scene) → RowTicks s (wait_row c n s)
wait_ticks (Wait k) n s = still_waits (less (elapsed k.start s.devices) k.duration) (only (Wait k) Yield s) (only Fresh Next s) s refl refl
wait_ticks c n s = refl

message_ticks : (threads : List Listed) (c : Context) (message : List ℕ) (s : Scene) → RowTicks s (broadcast_and_wait threads c message s)
message_ticks threads (Started serials) message s = refl
message_ticks threads c message s = refl

some_ticks : (q : Option Procedure) (a : Arguments) (s : Scene) → RowTicks s (call_some q a s)
some_ticks None a s = refl
some_ticks (Some q) a s = refl

call_ticks : (c : Context) (q : Option Procedure) (a : Arguments) (s : Scene) → RowTicks s (call_row c q a s)
call_ticks Called q a s = refl
call_ticks c q a s = some_ticks q a s

ask_ticks : (q : Question) (qs : List Question) (s : Scene) → IfGoes (ask_row q qs s) (RowTicks s)
ask_ticks q [] s = follows (question_shown (q ∷ []) (asked q s)) (λ v. Goes (record { parts = v; context = Asked; control = Promise; redraw = q.bubble })) (Ticks s) (RowTicks s) (shown_ticks (q ∷ []) (asked q s)) (λ v e. e)
ask_ticks q (first ∷ qs) s = refl

control_ticks : (p : Program) (threads : List Listed) (op : Opcode) (code : List ℕ) (a : Arguments) (here thread : ℕ) (c : Context) (s : Scene) → IfGoes (control_row p threads op code a here thread c s) (RowTicks s)
control_ticks p threads ControlRepeat code a here thread c s = repeat_ticks (turns_left c (number_at (codes "TIMES") a)) s
control_ticks p threads ControlWait code a here thread c s = wait_ticks c (number_at (codes "DURATION") a) s
control_ticks p threads EventBroadcastAndWait code a here thread c s = message_ticks threads c (text_at (codes "BROADCAST_INPUT") a) s
control_ticks p threads ProceduresCall code a here thread c s = call_ticks c (procedure (instance_at here s.targets).of code p) a s
control_ticks p threads SensingAskAndWait code a here thread c s = ask_ticks (question p here thread (text_at (codes "QUESTION") a) s) s.devices.questions s
control_ticks p threads op code a here thread c s = refl

-- Rows of looks

abbrev LooksTick : LooksParts → Row LooksParts → Type 0
LooksTick p x = x.parts.scene.devices.clock ≡ p.scene.devices.clock

by_ticks : (f : Option (Instance → Instance)) (here : ℕ) (p : LooksParts) → LooksTick p (looks.looks_by f here p)
by_ticks None here p = refl
by_ticks (Some f) here p = refl

effect_ticks : (e : Option ℕ) (n : ℕ → Instance → Num) (here : ℕ) (p : LooksParts) → LooksTick p (looks.effect_set e n here p)
effect_ticks None n here p = refl
effect_ticks (Some k) n here p = refl

either_ticks : (b : Bool) (p : LooksParts) (x : Row LooksParts) → LooksTick p x → LooksTick p (if b then looks.goes_on false p else x)
either_ticks true p x h = refl
either_ticks false p x h = h

sprite_ticks : (records : Records) (here : ℕ) (p : LooksParts) (x : Row LooksParts) → LooksTick p x → LooksTick p (looks.on_sprite records here p x)
sprite_ticks records here p x h = either_ticks (is_on_stage (looks.own here p) records) p x h

spoken_ticks : (kind : Say) (a : Arguments) (here : ℕ) (p : LooksParts) (next : LooksParts → Row LooksParts) → ((q : LooksParts) → LooksTick q (next q)) → IfGoes (looks.spoken kind a here p next) (LooksTick p)
spoken_ticks kind a here p next same =
    let text = bubble_text (value_at (codes "MESSAGE") a) in
    follows (bubble_updated here kind text p.scene) (λ s. Goes (next (record p { scene = s }))) (Ticks p.scene) (LooksTick p) (bubble_ticks here kind text p.scene) (λ s e. same (record p { scene = s }) ∙ e)

backdrop_ticks : (k : Option ℕ) (records : Records) (p : LooksParts) → (looks.with_backdrop k records p).scene.devices.clock ≡ p.scene.devices.clock
backdrop_ticks None records p = refl
backdrop_ticks (Some k) records p = refl

switched_ticks : (wait : Bool) (v : Value) (records : Records) (p : LooksParts) → IfGoes (looks.backdrop_switched wait v records p) (LooksTick p)
switched_ticks wait v records p =
    behind_any (looks.switched_to true v records (looks.own (stage_number records) p) p.words) (λ d. Goes (looks.backdrop_hats wait records (looks.with_backdrop d.value records (looks.with_words d.words p)))) (LooksTick p) (λ d. backdrop_ticks d.value records (looks.with_words d.words p))

waited_ticks : (c : Context) (v : Value) (records : Records) (threads : List Listed) (p : LooksParts) → IfGoes (looks.backdrop_and_wait c v records threads p) (LooksTick p)
waited_ticks (Started serials) v records threads p = refl
waited_ticks c v records threads p = switched_ticks true v records p

looks_tick : (records : Records) (threads : List Listed) (op : Opcode) (a : Arguments) (here thread : ℕ) (c : Context) (p : LooksParts) → IfGoes (looks_row records threads op a here thread c p) (LooksTick p)
looks_tick records threads LooksSay a here thread c p = spoken_ticks say.Say a here p (looks.shown_bubble here) (λ q. refl)
looks_tick records threads LooksThink a here thread c p = spoken_ticks say.Think a here p (looks.shown_bubble here) (λ q. refl)
looks_tick records threads LooksSayForSecs a here thread c p = spoken_ticks say.Say a here p (looks.timed_bubble (number_at (codes "SECS") a) here thread) (λ q. refl)
looks_tick records threads LooksThinkForSecs a here thread c p = spoken_ticks say.Think a here p (looks.timed_bubble (number_at (codes "SECS") a) here thread) (λ q. refl)
looks_tick records threads LooksSwitchCostumeTo a here thread c p =
    behind_any (looks.switched_to false (value_at (codes "COSTUME") a) records (looks.own here p) p.words) (λ d. Goes (looks.looks_by (option_map looks.with_costume d.value) here (looks.with_words d.words p))) (LooksTick p)
    (λ d. by_ticks (option_map looks.with_costume d.value) here (looks.with_words d.words p))
looks_tick records threads LooksSwitchBackdropTo a here thread c p = switched_ticks false (value_at (codes "BACKDROP") a) records p
looks_tick records threads LooksSwitchBackdropToAndWait a here thread c p = waited_ticks c (value_at (codes "BACKDROP") a) records threads p
looks_tick records threads LooksChangeSizeBy a here thread c p = sprite_ticks records here p (looks.looks (λ i. looks.with_size (add i.size (number_at (codes "CHANGE") a)) i) here p) refl
looks_tick records threads LooksSetSizeTo a here thread c p = sprite_ticks records here p (looks.looks (looks.with_size (number_at (codes "SIZE") a)) here p) refl
looks_tick records threads LooksChangeEffectBy a here thread c p = effect_ticks (looks.effect_named (field_at (codes "EFFECT") a)) (λ k i. add (slice_index_or i.effects k zero_number) (number_at (codes "CHANGE") a)) here p
looks_tick records threads LooksSetEffectTo a here thread c p = effect_ticks (looks.effect_named (field_at (codes "EFFECT") a)) (λ k i. number_at (codes "VALUE") a) here p
looks_tick records threads LooksShow a here thread c p = sprite_ticks records here p (looks.redrawn (λ i. record i { visible = true }) here p) refl
looks_tick records threads LooksHide a here thread c p = sprite_ticks records here p (looks.redrawn (λ i. record i { visible = false }) here p) refl
looks_tick records threads LooksGoToFrontBack a here thread c p = sprite_ticks records here p (looks.layered here (looks.front_or_back (field_at (codes "FRONT_BACK") a) (looks.last_layer p)) p) refl
looks_tick records threads LooksGoForwardBackwardLayers a here thread c p = sprite_ticks records here p (looks.layered here (looks.layer_after (looks.forward_by (number_at (codes "NUM") a) (field_at (codes "FORWARD_BACKWARD") a)) (looks.layer here p.scene.targets) (looks.last_layer p)) p) refl
looks_tick records threads op a here thread c p = refl

-- Worlds

abbrev Keeps : World Task → Outcome (World Task) → Type 0
Keeps w o = IfGoes o (IsSameTime w)

same : (w : World Task) → IsSameTime w w
same w = record { frame = refl; clock = refl }

joined : (w v u : World Task) → IsSameTime w v → IsSameTime v u → IsSameTime w u
joined w v u h g = record { frame = g.frame ∙ h.frame; clock = g.clock ∙ h.clock }

further : (w v : World Task) (o : Outcome (World Task)) → IsSameTime w v → Keeps v o → Keeps w o
further w v o h k = weaker o (IsSameTime v) (IsSameTime w) (λ u g. joined w v u h g) k

abbrev AppliedSo : World Task → Applied → Type 0
AppliedSo w x = IsSameTime w x.world

row_keeps : (g : Group) (p : Program) (d : Command) (a : Arguments) (here thread : ℕ) (c : Context) (w : World Task) → IfGoes (row_by g p d a here thread c w) (AppliedSo w)
row_keeps Motion p d a here thread c w = behind_any (motion_row p.records w.devices d.op a here c (record { targets = w.targets; words = w.words })) (applied (with_motion w) w) (AppliedSo w) (λ x. record { frame = refl; clock = refl })
row_keeps Looks p d a here thread c w =
    follows (looks_row p.records (listed w) d.op a here thread c (record { scene = scene_of w; words = w.words })) (applied (with_looks w) w) (LooksTick (record { scene = scene_of w; words = w.words })) (AppliedSo w) (looks_tick p.records (listed w) d.op a here thread c (record { scene = scene_of w; words = w.words }))
    (λ x e. record { frame = refl; clock = e })
row_keeps Data p d a here thread c w = behind_any (data_row p.records w.targets d.op a here (record { variables = w.variables; words = w.words })) (applied (with_data w) w) (AppliedSo w) (λ x. record { frame = refl; clock = refl })
row_keeps ControlGroup p d a here thread c w =
    follows (control_row p (listed w) d.op d.code a here thread c (scene_of w)) (applied (with_scene w) w) (RowTicks (scene_of w)) (AppliedSo w) (control_ticks p (listed w) d.op d.code a here thread c (scene_of w)) (λ x e. record { frame = refl; clock = e })

-- hats that are started
begin_keeps : (running : Option ℕ) (xs : List Pair) (w : World Task) → IfGoes (begin_pairs running xs w) (λ b. IsSameTime w b.world)
begin_keeps running xs w = behind_any (start_all tasks running xs (record { threads = w.threads; next = w.next_thread; serials = [] })) (λ c. Goes (begun w c)) (λ b. IsSameTime w b.world) (λ c. record { frame = refl; clock = refl })

others_keep : (i n : ℕ) (w : World Task) → Keeps w (others_stopped i n w)
others_keep i n w =
    follows (questions_dropped n (scene_of w)) (λ s. Goes (record (with_scene w s) { threads = finished_of tasks (Some (place i w.threads)) n w.threads })) (Ticks (scene_of w)) (IsSameTime w) (dropped_ticks n (scene_of w)) (λ s e. record { frame = refl; clock = e })

deleted_keeps : (n : ℕ) (w : World Task) → Keeps w (clone_deleted n w)
deleted_keeps n w =
    follows (questions_dropped n (scene_of (disposed n w))) (λ s. Goes (record (with_scene (disposed n w) (without_timers n s)) { threads = finished_of tasks None n w.threads })) (Ticks (scene_of (disposed n w))) (IsSameTime w) (dropped_ticks n (scene_of (disposed n w))) (λ s e. record { frame = refl; clock = e })

cloned_keeps : (p : Program) (i original : ℕ) (w : World Task) → Keeps w (cloned p i original w)
cloned_keeps p i original w =
    let placed = λ (b : Begun). Goes (record b.world { targets = placed_behind w.next_instance original b.world.targets }) in
    numbered_so counter.Instance w.next_instance (then_do (begin p (Some i) (CloneStart w.next_instance) (clone_added original w)) placed) (IsSameTime w)
    (follows (begin p (Some i) (CloneStart w.next_instance) (clone_added original w)) placed (λ b. IsSameTime (clone_added original w) b.world) (IsSameTime w)
    (begin_keeps (Some i) (starts p (CloneStart w.next_instance) (clone_added original w).targets) (clone_added original w)) (λ b h. record { frame = h.frame; clock = h.clock }))

unless_keeps : (b : Bool) (p : Program) (i original : ℕ) (w : World Task) → Keeps w (cloned_unless b p i original w)
unless_keeps true p i original w = same w
unless_keeps false p i original w = cloned_keeps p i original w

-- One execution

abbrev MomentSo : World Task → Moment (World Task) → Type 0
MomentSo w m = IsSameTime w m.world

moved_so : (w v : World Task) (i : ℕ) (x : Position) → IsSameTime w v → MomentSo w (moved i x v)
moved_so w v i x h = record { frame = h.frame; clock = h.clock }

room_keeps : (b : Bool) (i : ℕ) (x : Position) (w : World Task) → IfGoes (moved_with_room b i x w) (MomentSo w)
room_keeps true i x w = roomed_so (levels w) (moved i x w) (MomentSo w) (record { frame = refl; clock = refl })
room_keeps false i x w = record { frame = refl; clock = refl }

delete_keeps : (b : Bool) (i : ℕ) (t : Task) (x : Position) (w : World Task) → IfGoes (deleted_if b i t x w) (MomentSo w)
delete_keeps true i t x w = follows (clone_deleted t.of w) (λ v. Goes (moved i gone v)) (IsSameTime w) (MomentSo w) (deleted_keeps t.of w) (λ v h. moved_so w v i gone h)
delete_keeps false i t x w = record { frame = refl; clock = refl }

act_keeps : (p : Program) (i : ℕ) (late : Bool) (t : Task) (s : Statement) (r : List Item) (control : Control) (c : Context) (w : World Task) → IfGoes (act p i late t s r control c w) (MomentSo w)
act_keeps p i late t s r StopOthers c w = follows (others_stopped i t.of w) (λ v. Goes (moved i (settle r t.warp) v)) (IsSameTime w) (MomentSo w) (others_keep i t.of w) (λ v h. moved_so w v i (settle r t.warp) h)
act_keeps p i late t s r StopAll c w = record { frame = refl; clock = refl }
act_keeps p i late t s r DeleteClone c w = delete_keeps (is_clone p.records t.of) i t (settle r t.warp) w
act_keeps p i late t s r (Start hats wait) c w =
    follows (begin p (Some i) hats w) (λ b. Goes (moved i (after_start wait b.serials s t.warp r) b.world)) (λ b. IsSameTime w b.world) (MomentSo w) (begin_keeps (Some i) (starts p hats w.targets) w) (λ b h. moved_so w b.world i (after_start wait b.serials s t.warp r) h)
act_keeps p i late t s r (Clone original) c w =
    follows (cloned_unless (has_no_room p.records original w) p i original w) (λ v. Goes (moved i (settle r t.warp) v)) (IsSameTime w) (MomentSo w) (unless_keeps (has_no_room p.records original w) p i original w) (λ v h. moved_so w v i (settle r t.warp) h)
act_keeps p i late t s r control c w = room_keeps (opens_level control) i (position p late t.warp s r control c) w

execute_keeps : (p : Program) (i : ℕ) (late : Bool) (t : Task) (s : Statement) (c : Context) (params : Params) (r : List Item) (w : World Task) → IfGoes (execute p i late t s c params r w) (MomentSo w)
execute_keeps p i late t s c params r w =
    behind_any (evaluated (view_of p t params w) s w.words)
    (λ d. then_do (row p (command_of s) d.value t.of t.serial c (record w { words = d.words })) (λ x. act p i late t s r x.control x.context x.world)) (MomentSo w)
    (λ d. follows (row p (command_of s) d.value t.of t.serial c (record w { words = d.words })) (λ x. act p i late t s r x.control x.context x.world) (AppliedSo (record w { words = d.words })) (MomentSo w)
    (row_keeps (group (command_of s).op) p (command_of s) d.value t.of t.serial c (record w { words = d.words }))
    (λ x h. weaker (act p i late t s r x.control x.context x.world) (MomentSo x.world) (MomentSo w) (λ m g. joined w x.world m.world (record { frame = h.frame; clock = h.clock }) g) (act_keeps p i late t s r x.control x.context x.world)))

first_keeps : (p : Program) (i : ℕ) (late : Bool) (t : Task) (items : List Item) (w : World Task) → IfGoes (execute_first p i late t items w) (MomentSo w)
first_keeps p i late t (Do s ∷ r) w = execute_keeps p i late t s Fresh (params_in r) r w
first_keeps p i late t (Held s c ∷ r) w = execute_keeps p i late t s c (params_in r) r w
first_keeps p i late t (Returned s params ∷ r) w = execute_keeps p i late t s Called params r w
first_keeps p i late t [] w = same w
first_keeps p i late t (BranchEnd s v ∷ r) w = same w
first_keeps p i late t (Again s c v ∷ r) w = same w
first_keeps p i late t (Back s params v ∷ r) w = same w

step_keeps : (p : Program) (i : ℕ) (late : Bool) (o : Option Task) (w : World Task) → IfGoes (step_by p i late o w) (MomentSo w)
step_keeps p i late None w = same w
step_keeps p i late (Some t) w = first_keeps p i late t t.items w

-- Slices and passes

on_keeps : (b : Bool) (rest : World Task → Outcome (World Task)) (w : World Task) → Keeps w (rest w) → Keeps w (go_on b rest (λ v. Goes v) w)
on_keeps true rest w h = h
on_keeps false rest w h = same w

slice_keeps : (p : Program) (budget i n m : ℕ) (w : World Task) → Keeps w (slice_by (executing p i) budget n m w)
unfolding slice_by
slice_keeps p budget i zero m w = same w
slice_keeps p budget i (suc n) m w =
    let e = executing p i in
    let k = counted_after m (e.flag w) in
    follows (step p i (is_late budget m) w) (behind e budget k (e.flag w) (slice_by e budget n k)) (MomentSo w) (IsSameTime w) (step_keeps p i (is_late budget m) (running i w.threads) w)
    (λ x h. further w x.world (behind e budget k (e.flag w) (slice_by e budget n k) x) h
    (on_keeps (slice_goes_on x.report (e.flag w) (e.flag x.world) (is_late budget k)) (slice_by e budget n k) x.world (slice_keeps p budget i n k x.world)))

turn_of_keeps : (p : Program) (budget i : ℕ) (items : List Item) (w : World Task) → Keeps w (turn_of p budget i items w)
turn_of_keeps p budget i [] w = record { frame = refl; clock = refl }
turn_of_keeps p budget i (x ∷ r) w = slice_keeps p budget i most_executions 0 w

turn_keeps : (p : Program) (budget i : ℕ) (o : Option Task) (w : World Task) → Keeps w (turn_by p budget i o w)
turn_keeps p budget i None w = same w
turn_keeps p budget i (Some t) w = turn_of_keeps p budget i t.items w

abbrev PassedSo : World Task → Passed → Type 0
PassedSo w x = IsSameTime w x.world

visit_keeps : (p : Program) (budget i : ℕ) (w : World Task) → IfGoes (visit p budget i w) (PassedSo w)
visit_keeps p budget i w =
    follows (turn p budget i (woken i w)) (λ v. Goes (record { world = without_detached v; active = is_active (running i v.threads) })) (IsSameTime (woken i w)) (PassedSo w) (turn_keeps p budget i (running i (woken i w).threads) (woken i w)) (λ v h. record { frame = h.frame; clock = h.clock })

pass_on_keeps : (p : Program) (first : Bool) (budget n : ℕ) (o : Option ℕ) (w : World Task) (active : Bool)
    → ((j : ℕ) (v : World Task) (b : Bool) → IfGoes (pass p first budget n j v b) (PassedSo v))
    → IfGoes (pass_on p budget o w active (pass p first budget n)) (PassedSo w)
pass_on_keeps p first budget n None w active rest = same w
pass_on_keeps p first budget n (Some j) w active rest =
    follows (visit p budget j w) (λ x. pass p first budget n (suc j) x.world (active || x.active)) (PassedSo w) (PassedSo w) (visit_keeps p budget j w)
    (λ x h. weaker (pass p first budget n (suc j) x.world (active || x.active)) (PassedSo x.world) (PassedSo w) (λ y g. joined w x.world y.world h g) (rest (suc j) x.world (active || x.active)))

pass_keeps : (p : Program) (first : Bool) (budget n i : ℕ) (w : World Task) (active : Bool) → IfGoes (pass p first budget n i w active) (PassedSo w)
unfolding pass
pass_keeps p first budget zero i w active = same w
pass_keeps p first budget (suc n) i w active = pass_on_keeps p first budget n (next_place first i (drop i w.threads.list)) w active (λ j v b. pass_keeps p first budget n j v b)

pub passes-keep : (p : Program) (budget n : ℕ) (first active : Bool) (w : World Task) → Keeps w (passes p budget n first active w)
unfolding passes
passes-keep p budget zero first active w = same w
passes-keep p budget (suc n) first active w =
    let next = λ (x : Passed). passes p budget n false x.active (without_done x.world) in
    on_keeps (passes_go_on active w) (λ v. then_do (pass p first budget most_slices 0 v false) next) w
    (follows (pass p first budget most_slices 0 w false) next (PassedSo w) (IsSameTime w) (pass_keeps p first budget most_slices 0 w false)
    (λ x h. further w (without_done x.world) (passes p budget n false x.active (without_done x.world)) (record { frame = h.frame; clock = h.clock }) (passes-keep p budget n false x.active (without_done x.world))))

-- Timers

ended_keeps : (t : BubbleTimer) (w : World Task) → Keeps w (timer_ended t w)
ended_keeps t w =
    follows (if still_fits t (live t.of w.targets) then bubble_emptied t.of (scene_of w) else Goes (scene_of w)) (λ s. Goes (resumed t.thread (with_scene w s))) (Ticks (scene_of w)) (IsSameTime w)
    (either_way (still_fits t (live t.of w.targets)) (bubble_emptied t.of (scene_of w)) (Goes (scene_of w)) (Ticks (scene_of w)) (bubble_ticks t.of (instance_at t.of w.targets).bubble.kind [] (scene_of w)) refl)
    (λ s e. record { frame = refl; clock = e })

due_keeps : (o : Option Found) (w : World Task) (rest : World Task → Outcome (World Task)) → ((v : World Task) → Keeps v (rest v)) → Keeps w (end_due o w rest)
due_keeps None w rest h = same w
due_keeps (Some x) w rest h =
    follows (timer_ended x.timer (without_timer x.at w)) rest (IsSameTime (without_timer x.at w)) (IsSameTime w) (ended_keeps x.timer (without_timer x.at w))
    (λ v g. further w v (rest v) (record { frame = g.frame; clock = g.clock }) (h v))

pub timers-keep : (n : ℕ) (w : World Task) → Keeps w (timers_ended n w)
unfolding timers_ended
timers-keep zero w = same w
timers-keep (suc n) w = due_keeps (next_due w.devices.clock 0 w.devices.timers) w (timers_ended n) (λ v. timers-keep n v)

-- Edge hats

fired_keeps : (b : Bool) (x : Pair) (w : World Task) → Keeps w (edge_fired b x w)
fired_keeps true x w = follows (begin_pairs None (x ∷ []) w) (λ b. Goes b.world) (λ b. IsSameTime w b.world) (IsSameTime w) (begin_keeps None (x ∷ []) w) (λ b h. h)
fired_keeps false x w = same w

passed_keeps : (x : Pair) (v : Bool) (w : World Task) → Keeps w (edge_passed x v w)
passed_keeps x v w = further w (edge_noted x v w) (edge_fired (v && not (recorded (hat_block x.head) (edges_of (live x.of w.targets)))) x (edge_noted x v w)) (record { frame = refl; clock = refl }) (fired_keeps (v && not (recorded (hat_block x.head) (edges_of (live x.of w.targets)))) x (edge_noted x v w))

one_keeps : (p : Program) (x : Pair) (w : World Task) → Keeps w (edge_one p x w)
one_keeps p x w =
    let valued = λ (d : Drawn (List (List ℕ × Value))). edge_value x.head.hat (number_at (codes "VALUE") (arguments_of x.head.hat d.value)) w.devices in
    behind_any (values (edge_view p x.of w) (inputs_of x.head.hat) w.words) (λ d. edge_passed x (valued d) (record w { words = d.words })) (IsSameTime w)
    (λ d. further w (record w { words = d.words }) (edge_passed x (valued d) (record w { words = d.words })) (record { frame = refl; clock = refl })
    (passed_keeps x (valued d) (record w { words = d.words })))

pub edges-keep : (p : Program) (xs : List Pair) (w : World Task) → Keeps w (edges_passed p xs w)
edges-keep p [] w = same w
edges-keep p (x ∷ xs) w = follows (edge_one p x w) (edges_passed p xs) (IsSameTime w) (IsSameTime w) (one_keeps p x w) (λ v h. further w v (edges_passed p xs v) h (edges-keep p xs v))
