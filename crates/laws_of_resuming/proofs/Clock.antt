-- The clock of a world is the last clock reading: nothing but a frame line sets it.
use Rattle.std.proofs.Common.{◌≡◌, ℕ, zero, suc, ◌+◌, ◌&&◌, ◌||◌, not, Bool, true, false, if◌then◌else◌, List, [], ◌∷◌, length, drop, Option, Some, None, option_map, is_some, refl}
use Rattle.std.specs.Prelude.{codes, pos, negsuc, slice_get, slice_index_or}
use Rattle.opcode_table.specs.declared.groups.Group.{Group}
use Rattle.opcode_table.specs.declared.groups.Group.TheVariants.{Motion, Looks, Data, Control as ControlGroup}
use Rattle.opcode_table.specs.declared.opcode.Opcode.{Opcode}
use Rattle.opcode_table.specs.declared.opcode.Opcode.TheVariants.{LooksSay, LooksThink, LooksSayForSecs, LooksThinkForSecs, LooksSwitchCostumeTo, LooksSwitchBackdropTo, LooksSwitchBackdropToAndWait, LooksChangeSizeBy, LooksSetSizeTo, LooksChangeEffectBy, LooksSetEffectTo, LooksShow, LooksHide, LooksGoToFrontBack, LooksGoForwardBackwardLayers, LooksNextCostume, LooksNextBackdrop, LooksClearGraphicEffects, ControlForever, ControlRepeat, ControlRepeatUntil, ControlIf, ControlIfElse, ControlWait, ControlWaitUntil, ControlStop, ControlCreateCloneOf, ControlDeleteThisClone, EventBroadcast, EventBroadcastAndWait, ProceduresCall, SensingAskAndWait, SensingResetTimer}
use Rattle.opcode_table.specs.Kinds.{group}
use Rattle.script_words.specs.declared.stops.CounterKind.{CounterKind}
use Rattle.script_words.specs.declared.stops.CounterKind.TheVariants as counter
use Rattle.scratch_number.specs.declared.number.Num.{Num}
use Rattle.scratch_number.specs.Arithmetic.{add}
use Rattle.scratch_values.specs.Casts.{zero_number}
use Rattle.scratch_values.specs.declared.value.Value.{Value}
use Rattle.scratch_values.specs.Named.{Arguments}
use Rattle.machine_spec.specs.declared.bubble.Say.{Say}
use Rattle.machine_spec.specs.declared.bubble.Say.TheVariants as say
use Rattle.machine_spec.specs.declared.devices.BubbleTimer.{BubbleTimer}
use Rattle.machine_spec.specs.declared.devices.Key.{Key}
use Rattle.machine_spec.specs.declared.devices.Question.{Question}
use Rattle.machine_spec.specs.declared.instance.Instance.{Instance}
use Rattle.machine_spec.specs.declared.lines.Budget.{Budget}
use Rattle.machine_spec.specs.declared.lines.Line.{Line}
use Rattle.machine_spec.specs.declared.lines.Line.TheVariants as line
use Rattle.machine_spec.specs.declared.threads.Context.{Context}
use Rattle.machine_spec.specs.declared.threads.Context.TheVariants.{Fresh, Wait, Started, Called}
use Rattle.machine_spec.specs.declared.threads.Control.{Control}
use Rattle.machine_spec.specs.declared.threads.Control.TheVariants.{Next, Yield, StopOthers, StopAll, DeleteClone, Start, Clone}
use Rattle.machine_spec.specs.declared.threads.Count.{Count}
use Rattle.machine_spec.specs.declared.threads.Count.TheVariants.{Whole, Infinite}
use Rattle.machine_spec.specs.declared.threads.Filter.{Filter}
use Rattle.machine_spec.specs.declared.threads.Filter.TheVariants.{Key as KeyHats, Flag, Clicked, CloneStart}
use Rattle.machine_spec.specs.declared.threads.WaitState.{WaitState}
use Rattle.machine_spec.specs.BubbleText.{cut}
use Rattle.machine_spec.specs.ControlRows.{only, turns_left, repeat_row, wait_row, broadcast_and_wait, call_some, call_row, question_shown, asked, ask_row, question, control_row}
use Rattle.machine_spec.specs.DataRows.{data_row}
use Rattle.machine_spec.specs.Evaluate.{arguments_of, values, evaluated}
use Rattle.machine_spec.specs.Frame.{Found, next_due, without_timer, still_fits, timer_ended, end_due, timers_ended, edges, edge_value, recorded, edges_of, edge_noted, edge_fired, edge_view, edge_one, edges_passed, passes_go_on, passes, at_clock, numbered, frame}
use Rattle.machine_spec.specs.Line.{started, key_name, key_down, reset, clicked, with_answer, answered, after}
use Rattle.machine_spec.specs.Looks.{goes_on, own, looks_by, on_sprite, effect_set, effect_named, spoken, shown_bubble, timed_bubble, with_costume, with_backdrop, with_words, switched_to, backdrop_switched, backdrop_and_wait, looks_row}
use Rattle.machine_spec.specs.Motion.{motion_row}
use Rattle.machine_spec.specs.Outcome.{Outcome, Goes, Full, TooLong, Spent, IfGoes, then_do, with_number}
use Rattle.machine_spec.specs.Parts.{LooksParts, Scene, bubble_set, bubble_updated}
use Rattle.machine_spec.specs.Pending.{Item, Do, Held, Returned, Branch, Again, Back, Position, settle, params_in}
use Rattle.machine_spec.specs.Places.{place, running}
use Rattle.machine_spec.specs.Program.{Program, Procedure, hat_block, procedure, stage_number}
use Rattle.machine_spec.specs.Script.{Statement, Command, command_of, inputs_of}
use Rattle.machine_spec.specs.ScriptText.{Good, clock_after}
use Rattle.machine_spec.specs.Slice.{go_on, is_late, counted_after, slice_goes_on, slice_by, executing, most_executions, turn_of, turn_by, turn, woken, Passed, visit, next_place, pass_on, pass, most_slices, without_done}
use Rattle.machine_spec.specs.Starting.{Pair, starts, start_all}
use Rattle.machine_spec.specs.Step.{Applied, row_by, row, applied, with_motion, with_data, position, opens_level, Moment, moved, moved_with_room, others_stopped, clone_deleted, cloned, cloned_unless, deleted_if, act, view_of, execute, execute_first, step_by, step}
use Rattle.machine_spec.specs.Stopping.{scene_of, bubble_emptied, first_taken, is_first_of, without_questions, questions_dropped, is_clone, disposed, clone_added, has_no_room}
use Rattle.machine_spec.specs.Stores.{live, instance_at, is_on_stage, elapsed, less}
use Rattle.machine_spec.specs.Tasks.{Task, tasks, listed, Begun, begin_pairs, begin}
use Rattle.machine_spec.specs.Texts.{bubble_text}
use Rattle.machine_spec.specs.Threads.{Listed, Params}
use Rattle.machine_spec.specs.View.{Row, number_at, text_at, value_at, field_at}
use Rattle.machine_spec.specs.World.{World}

goes_then : {A B : Type 0} (o : Outcome A) (f : A → Outcome B) (P : A → Type 0) (Q : B → Type 0) → IfGoes o P → ((x : A) → P x → IfGoes (f x) Q) → IfGoes (then_do o f) Q
goes_then (Goes x) f P Q h g = g x h
goes_then Full f P Q h g = tt
goes_then (TooLong n) f P Q h g = tt
goes_then (Spent which) f P Q h g = tt

goes_any : {A B : Type 0} (o : Outcome A) (f : A → Outcome B) (Q : B → Type 0) → ((x : A) → IfGoes (f x) Q) → IfGoes (then_do o f) Q
goes_any (Goes x) f Q g = g x
goes_any Full f Q g = tt
goes_any (TooLong n) f Q g = tt
goes_any (Spent which) f Q g = tt

number_by : {A : Type 0} (c : Bool) (which : CounterKind) (o : Outcome A) (P : A → Type 0) → IfGoes o P → IfGoes (if c then Spent which else o) P
number_by true which o P h = tt
number_by false which o P h = h

room_by : {A : Type 0} (c : Bool) (x : A) (P : A → Type 0) → P x → IfGoes (if c then Goes x else Full) P
room_by true x P h = h
room_by false x P h = tt

module _ (clock : ℕ) where
  -- where the clock stands there
  abbrev SceneAt : Scene → Type 0
  SceneAt s = s.devices.clock ≡ clock

  abbrev At : World Task → Type 0
  At w = w.devices.clock ≡ clock

  -- Bubbles and questions

  updated_by : (c : Bool) (n : ℕ) (kind : Say) (text : List ℕ) (s : Scene) → SceneAt s → IfGoes (if c then with_number counter.Bubble s.devices.usage (Goes (bubble_set n kind text s)) else Goes s) SceneAt
  updated_by true n kind text s h = number_by _ counter.Bubble (Goes (bubble_set n kind text s)) SceneAt h
  updated_by false n kind text s h = h

  updated_at : (n : ℕ) (kind : Say) (text : List ℕ) (s : Scene) → SceneAt s → IfGoes (bubble_updated n kind text s) SceneAt
  updated_at n kind text s h = updated_by (is_some (live n s.targets)) n kind text s h

  shown_by : (c : Bool) (q : Question) (s : Scene) → SceneAt s → IfGoes (if c then bubble_updated q.of say.Say (cut q.text) s else Goes s) SceneAt
  shown_by true q s h = updated_at q.of say.Say (cut q.text) s h
  shown_by false q s h = h

  shown_at : (qs : List Question) (s : Scene) → SceneAt s → IfGoes (question_shown qs s) SceneAt
  shown_at [] s h = h
  shown_at (q ∷ qs) s h = shown_by q.bubble q s h

  emptied_by : (c : Bool) (n : ℕ) (s : Scene) → SceneAt s → IfGoes (if c then bubble_emptied n s else Goes s) SceneAt
  emptied_by true n s h = updated_at n (instance_at n s.targets).bubble.kind [] s h
  emptied_by false n s h = h

  taken_at : (c : Bool) (n : ℕ) (s : Scene) → SceneAt s → IfGoes (first_taken c n s) SceneAt
  taken_at c n s h = goes_then (if c then bubble_emptied n s else Goes s) (λ v. question_shown v.devices.questions v) SceneAt SceneAt (emptied_by c n s h) (λ v g. shown_at v.devices.questions v g)

  dropped_by : (c : Bool) (n : ℕ) (s : Scene) → SceneAt s → IfGoes (if c then first_taken true n (without_questions n s) else Goes (without_questions n s)) SceneAt
  dropped_by true n s h = taken_at true n (without_questions n s) h
  dropped_by false n s h = h

  dropped_at : (n : ℕ) (s : Scene) → SceneAt s → IfGoes (questions_dropped n s) SceneAt
  dropped_at n s h = dropped_by (is_first_of n s.devices.questions) n s h

  -- Rows of looks

  module _ (here : ℕ) (v : LooksParts) (h : SceneAt v.scene) where
    abbrev LooksAt : Row LooksParts → Type 0
    LooksAt r = SceneAt r.parts.scene

    sprite_by : (c : Bool) (r : Row LooksParts) → LooksAt r → LooksAt (if c then goes_on false v else r)
    sprite_by true r g = h
    sprite_by false r g = g

    effect_at : (e : Option ℕ) (n : ℕ → Instance → Num) → LooksAt (effect_set e n here v)
    effect_at None n = h
    effect_at (Some k) n = h

    spoken_at : (kind : Say) (a : Arguments) (next : LooksParts → Row LooksParts) → ((s : Scene) → SceneAt s → LooksAt (next (record v { scene = s }))) → IfGoes (spoken kind a here v next) LooksAt
    spoken_at kind a next g = goes_then (bubble_updated here kind (bubble_text (value_at (codes "MESSAGE") a)) v.scene) (λ s. Goes (next (record v { scene = s }))) SceneAt LooksAt (updated_at here kind (bubble_text (value_at (codes "MESSAGE") a)) v.scene h) g

    module _ (p : Program) (ts : List Listed) (thread : ℕ) where
      costume_at : (o : Option ℕ) (x : LooksParts) → SceneAt x.scene → LooksAt (looks_by (option_map with_costume o) here x)
      costume_at None x g = g
      costume_at (Some k) x g = g

      backdrop_at : (o : Option ℕ) (x : LooksParts) → SceneAt x.scene → SceneAt (with_backdrop o p.records x).scene
      backdrop_at None x g = g
      backdrop_at (Some k) x g = g

      switched_at : (wait : Bool) (value : Value) → IfGoes (backdrop_switched wait value p.records v) LooksAt
      switched_at wait value = goes_any (switched_to true value p.records (own (stage_number p.records) v) v.words) _ LooksAt (λ d. backdrop_at d.value (with_words d.words v) h)

      and_wait_at : (c : Context) (value : Value) → IfGoes (backdrop_and_wait c value p.records ts v) LooksAt
      and_wait_at (Started serials) value = h
      and_wait_at c value = switched_at true value

      on_sprite_at : (r : Row LooksParts) → LooksAt r → LooksAt (on_sprite p.records here v r)
      on_sprite_at r g = sprite_by (is_on_stage (own here v) p.records) r g

      looks_at : (op : Opcode) (a : Arguments) (c : Context) → IfGoes (looks_row p.records ts op a here thread c v) LooksAt
      looks_at LooksSay a c = spoken_at say.Say a (shown_bubble here) (λ s g. g)
      looks_at LooksThink a c = spoken_at say.Think a (shown_bubble here) (λ s g. g)
      looks_at LooksSayForSecs a c = spoken_at say.Say a (timed_bubble (number_at (codes "SECS") a) here thread) (λ s g. g)
      looks_at LooksThinkForSecs a c = spoken_at say.Think a (timed_bubble (number_at (codes "SECS") a) here thread) (λ s g. g)
      looks_at LooksSwitchCostumeTo a c = goes_any (switched_to false (value_at (codes "COSTUME") a) p.records (own here v) v.words) _ LooksAt (λ d. costume_at d.value (with_words d.words v) h)
      looks_at LooksNextCostume a c = h
      looks_at LooksSwitchBackdropTo a c = switched_at false (value_at (codes "BACKDROP") a)
      looks_at LooksSwitchBackdropToAndWait a c = and_wait_at c (value_at (codes "BACKDROP") a)
      looks_at LooksNextBackdrop a c = h
      looks_at LooksChangeSizeBy a c = on_sprite_at _ h
      looks_at LooksSetSizeTo a c = on_sprite_at _ h
      looks_at LooksChangeEffectBy a c = effect_at (effect_named (field_at (codes "EFFECT") a)) (λ k i. add (slice_index_or i.effects k zero_number) (number_at (codes "CHANGE") a))
      looks_at LooksSetEffectTo a c = effect_at (effect_named (field_at (codes "EFFECT") a)) (λ k i. number_at (codes "VALUE") a)
      looks_at LooksClearGraphicEffects a c = h
      looks_at LooksShow a c = on_sprite_at _ h
      looks_at LooksHide a c = on_sprite_at _ h
      looks_at LooksGoToFrontBack a c = on_sprite_at _ h
      looks_at LooksGoForwardBackwardLayers a c = on_sprite_at _ h
      looks_at op a c = h

  -- Rows of control

  module _ (p : Program) (s : Scene) (h : SceneAt s) where
    abbrev ControlAt : Row Scene → Type 0
    ControlAt r = SceneAt r.parts

    repeat_at : (n : Count) → ControlAt (repeat_row n s)
    repeat_at Infinite = h
    repeat_at (Whole (pos zero)) = h
    repeat_at (Whole (pos (suc n))) = h
    repeat_at (Whole (negsuc n)) = h

    waits_by : (c : Bool) (k : WaitState) → ControlAt (if c then only (Wait k) Yield s else only Fresh Next s)
    waits_by true k = h
    waits_by false k = h

    wait_at : (c : Context) (n : Num) → ControlAt (wait_row c n s)
    wait_at (Wait k) n = waits_by (less (elapsed k.start s.devices) k.duration) k
    wait_at c n = h

    broadcast_at : (ts : List Listed) (c : Context) (message : List ℕ) → ControlAt (broadcast_and_wait ts c message s)
    broadcast_at ts (Started serials) message = h
    broadcast_at ts c message = h

    call_some_at : (q : Option Procedure) (a : Arguments) → ControlAt (call_some q a s)
    call_some_at None a = h
    call_some_at (Some q) a = h

    call_at : (c : Context) (q : Option Procedure) (a : Arguments) → ControlAt (call_row c q a s)
    call_at Called q a = h
    call_at c q a = call_some_at q a

    ask_at : (q : Question) (qs : List Question) → IfGoes (ask_row q qs s) ControlAt
    ask_at q [] = goes_then (question_shown (q ∷ []) (asked q s)) _ SceneAt ControlAt (shown_at (q ∷ []) (asked q s) h) (λ v g. g)
    ask_at q (first ∷ qs) = h

    control_at : (ts : List Listed) (op : Opcode) (code : List ℕ) (a : Arguments) (here thread : ℕ) (c : Context) → IfGoes (control_row p ts op code a here thread c s) ControlAt
    control_at ts ControlForever code a here thread c = h
    control_at ts ControlRepeat code a here thread c = repeat_at (turns_left c (number_at (codes "TIMES") a))
    control_at ts ControlRepeatUntil code a here thread c = h
    control_at ts ControlIf code a here thread c = h
    control_at ts ControlIfElse code a here thread c = h
    control_at ts ControlWait code a here thread c = wait_at c (number_at (codes "DURATION") a)
    control_at ts ControlWaitUntil code a here thread c = h
    control_at ts ControlStop code a here thread c = h
    control_at ts ControlCreateCloneOf code a here thread c = h
    control_at ts ControlDeleteThisClone code a here thread c = h
    control_at ts EventBroadcast code a here thread c = h
    control_at ts EventBroadcastAndWait code a here thread c = broadcast_at ts c (text_at (codes "BROADCAST_INPUT") a)
    control_at ts ProceduresCall code a here thread c = call_at c (procedure (instance_at here s.targets).of code p) a
    control_at ts SensingAskAndWait code a here thread c = ask_at (question p here thread (text_at (codes "QUESTION") a) s) s.devices.questions
    control_at ts SensingResetTimer code a here thread c = h
    control_at ts op code a here thread c = h

  -- One execution

  module _ (p : Program) where
    abbrev AppliedAt : Applied → Type 0
    AppliedAt x = At x.world

    abbrev MomentAt : Moment (World Task) → Type 0
    MomentAt m = At m.world

    row_by_at : (g : Group) (d : Command) (a : Arguments) (here thread : ℕ) (c : Context) (w : World Task) → At w → IfGoes (row_by g p d a here thread c w) AppliedAt
    row_by_at Motion d a here thread c w h = goes_any (motion_row p.records w.devices d.op a here c (record { targets = w.targets; words = w.words })) (applied (with_motion w) w) AppliedAt (λ r. h)
    row_by_at Looks d a here thread c w h = goes_then (looks_row p.records (listed w) d.op a here thread c (record { scene = scene_of w; words = w.words })) _ (λ r. SceneAt r.parts.scene) AppliedAt
        (looks_at here (record { scene = scene_of w; words = w.words }) h p (listed w) thread d.op a c) (λ r g. g)
    row_by_at Data d a here thread c w h = goes_any (data_row p.records w.targets d.op a here (record { variables = w.variables; words = w.words })) (applied (with_data w) w) AppliedAt (λ r. h)
    row_by_at ControlGroup d a here thread c w h = goes_then (control_row p (listed w) d.op d.code a here thread c (scene_of w)) _ (λ r. SceneAt r.parts) AppliedAt
        (control_at p (scene_of w) h (listed w) d.op d.code a here thread c) (λ r g. g)

    begin_at : (r : Option ℕ) (f : Filter) (w : World Task) → At w → IfGoes (begin p r f w) (λ b. At b.world)
    begin_at r f w h = goes_any (start_all tasks r (starts p f w.targets) (record { threads = w.threads; next = w.next_thread; serials = [] })) _ (λ (b : Begun). At b.world) (λ c. h)

    module _ (i : ℕ) where
      others_at : (n : ℕ) (w : World Task) → At w → IfGoes (others_stopped i n w) At
      others_at n w h = goes_then (questions_dropped n (scene_of w)) _ SceneAt At (dropped_at n (scene_of w) h) (λ s g. g)

      deleted_at : (n : ℕ) (w : World Task) → At w → IfGoes (clone_deleted n w) At
      deleted_at n w h = goes_then (questions_dropped n (scene_of (disposed n w))) _ SceneAt At (dropped_at n (scene_of (disposed n w)) h) (λ s g. g)

      delete_by : (c : Bool) (t : Task) (x : Position) (w : World Task) → At w → IfGoes (deleted_if c i t x w) MomentAt
      delete_by true t x w h = goes_then (clone_deleted t.of w) _ At MomentAt (deleted_at t.of w h) (λ v g. g)
      delete_by false t x w h = h

      cloned_at : (original : ℕ) (w : World Task) → At w → IfGoes (cloned p i original w) At
      cloned_at original w h = number_by _ counter.Instance _ At
          (goes_then (begin p (Some i) (CloneStart w.next_instance) (clone_added original w)) _ (λ b. At b.world) At (begin_at (Some i) (CloneStart w.next_instance) (clone_added original w) h) (λ b g. g))

      unless_at : (c : Bool) (original : ℕ) (w : World Task) → At w → IfGoes (cloned_unless c p i original w) At
      unless_at true original w h = h
      unless_at false original w h = cloned_at original w h

      with_room_at : (c : Bool) (x : Position) (w : World Task) → At w → IfGoes (moved_with_room c i x w) MomentAt
      with_room_at true x w h = room_by _ (moved i x w) MomentAt h
      with_room_at false x w h = h

      act_at : (late : Bool) (t : Task) (s : Statement) (r : List Item) (control : Control) (c : Context) (w : World Task) → At w → IfGoes (act p i late t s r control c w) MomentAt
      act_at late t s r StopOthers c w h = goes_then (others_stopped i t.of w) _ At MomentAt (others_at t.of w h) (λ v g. g)
      act_at late t s r StopAll c w h = h
      act_at late t s r DeleteClone c w h = delete_by (is_clone p.records t.of) t (settle r t.warp) w h
      act_at late t s r (Start hats wait) c w h = goes_then (begin p (Some i) hats w) _ (λ b. At b.world) MomentAt (begin_at (Some i) hats w h) (λ b g. g)
      act_at late t s r (Clone original) c w h = goes_then (cloned_unless (has_no_room p.records original w) p i original w) _ At MomentAt (unless_at (has_no_room p.records original w) original w h) (λ v g. g)
      act_at late t s r control c w h = with_room_at (opens_level control) (position p late t.warp s r control c) w h

      execute_at : (late : Bool) (t : Task) (s : Statement) (c : Context) (params : Params) (r : List Item) (w : World Task) → At w → IfGoes (execute p i late t s c params r w) MomentAt
      execute_at late t s c params r w h = goes_any (evaluated (view_of p t params w) s w.words) _ MomentAt
          (λ d. goes_then (row p (command_of s) d.value t.of t.serial c (record w { words = d.words })) _ AppliedAt MomentAt
          (row_by_at (group (command_of s).op) (command_of s) d.value t.of t.serial c (record w { words = d.words }) h)
          (λ x g. act_at late t s r x.control x.context x.world g))

      first_at : (late : Bool) (t : Task) (items : List Item) (w : World Task) → At w → IfGoes (execute_first p i late t items w) MomentAt
      first_at late t [] w h = h
      first_at late t (Do s ∷ r) w h = execute_at late t s Fresh (params_in r) r w h
      first_at late t (Held s c ∷ r) w h = execute_at late t s c (params_in r) r w h
      first_at late t (Returned s params ∷ r) w h = execute_at late t s Called params r w h
      first_at late t (Branch s v ∷ r) w h = h
      first_at late t (Again s c v ∷ r) w h = h
      first_at late t (Back s params v ∷ r) w h = h

      step_by_at : (late : Bool) (o : Option Task) (w : World Task) → At w → IfGoes (step_by p i late o w) MomentAt
      step_by_at late None w h = h
      step_by_at late (Some t) w h = first_at late t t.items w h

      -- Slices and turns

      on_by : (c : Bool) (w : World Task) (rest : World Task → Outcome (World Task)) → ((v : World Task) → At v → IfGoes (rest v) At) → At w → IfGoes (go_on c rest (λ v. Goes v) w) At
      on_by true w rest f h = f w h
      on_by false w rest f h = h

      slice_at : (budget n m : ℕ) (w : World Task) → At w → IfGoes (slice_by (executing p i) budget n m w) At
      unfolding slice_by
      slice_at budget zero m w h = h
      slice_at budget (suc n) m w h =
          let e = executing p i in
          goes_then (step p i (is_late budget m) w) _ MomentAt At (step_by_at (is_late budget m) (running i w.threads) w h)
          (λ x g. on_by (slice_goes_on x.report (e.flag w) (e.flag x.world) (is_late budget (counted_after m (e.flag w)))) x.world (slice_by e budget n (counted_after m (e.flag w)))
          (λ v k. slice_at budget n (counted_after m (e.flag w)) v k) g)

      turn_of_at : (budget : ℕ) (items : List Item) (w : World Task) → At w → IfGoes (turn_of p budget i items w) At
      turn_of_at budget [] w h = h
      turn_of_at budget (x ∷ r) w h = slice_at budget most_executions 0 w h

      turn_by_at : (budget : ℕ) (o : Option Task) (w : World Task) → At w → IfGoes (turn_by p budget i o w) At
      turn_by_at budget None w h = h
      turn_by_at budget (Some t) w h = turn_of_at budget t.items w h

      visit_at : (budget : ℕ) (w : World Task) → At w → IfGoes (visit p budget i w) (λ x. At x.world)
      visit_at budget w h = goes_then (turn p budget i (woken i w)) _ At (λ (x : Passed). At x.world) (turn_by_at budget (running i (woken i w).threads) (woken i w) h) (λ v g. g)

    -- Passes

    abbrev PassedAt : Passed → Type 0
    PassedAt x = At x.world

    pass_on_at : (budget : ℕ) (o : Option ℕ) (w : World Task) (active : Bool) (rest : ℕ → World Task → Bool → Outcome Passed) → ((i : ℕ) (v : World Task) (a : Bool) → At v → IfGoes (rest i v a) PassedAt) → At w → IfGoes (pass_on p budget o w active rest) PassedAt
    pass_on_at budget None w active rest f h = h
    pass_on_at budget (Some j) w active rest f h = goes_then (visit p budget j w) _ PassedAt PassedAt (visit_at j budget w h) (λ x g. f (suc j) x.world (active || x.active) g)

    pass_at : (first : Bool) (budget n i : ℕ) (w : World Task) (active : Bool) → At w → IfGoes (pass p first budget n i w active) PassedAt
    unfolding pass
    pass_at first budget zero i w active h = h
    pass_at first budget (suc n) i w active h = pass_on_at budget (next_place first i (drop i w.threads.list)) w active (pass p first budget n) (λ k v a g. pass_at first budget n k v a g) h

    passes_at : (budget n : ℕ) (first active : Bool) (w : World Task) → At w → IfGoes (passes p budget n first active w) At
    unfolding passes
    passes_at budget zero first active w h = h
    passes_at budget (suc n) first active w h =
        on_by 0 (passes_go_on active w) w (λ v. then_do (pass p first budget most_slices 0 v false) (λ x. passes p budget n false x.active (without_done x.world)))
        (λ v g. goes_then (pass p first budget most_slices 0 v false) _ PassedAt At (pass_at first budget most_slices 0 v false g) (λ x k. passes_at budget n false x.active (without_done x.world) k)) h

    -- Bubble timers and edge hats

    timer_at : (t : BubbleTimer) (w : World Task) → At w → IfGoes (timer_ended t w) At
    timer_at t w h = goes_then (if still_fits t (live t.of w.targets) then bubble_emptied t.of (scene_of w) else Goes (scene_of w)) _ SceneAt At (emptied_by (still_fits t (live t.of w.targets)) t.of (scene_of w) h) (λ s g. g)

    due_at : (o : Option Found) (w : World Task) (rest : World Task → Outcome (World Task)) → ((v : World Task) → At v → IfGoes (rest v) At) → At w → IfGoes (end_due o w rest) At
    due_at None w rest f h = h
    due_at (Some x) w rest f h = goes_then (timer_ended x.timer (without_timer x.at w)) rest At At (timer_at x.timer (without_timer x.at w) h) f

    timers_at : (n : ℕ) (w : World Task) → At w → IfGoes (timers_ended n w) At
    unfolding timers_ended
    timers_at zero w h = h
    timers_at (suc n) w h = due_at (next_due w.devices.clock 0 w.devices.timers) w (timers_ended n) (λ v g. timers_at n v g) h

    pairs_at : (xs : List Pair) (w : World Task) → At w → IfGoes (begin_pairs None xs w) (λ b. At b.world)
    pairs_at xs w h = goes_any (start_all tasks None xs (record { threads = w.threads; next = w.next_thread; serials = [] })) _ (λ (b : Begun). At b.world) (λ c. h)

    fired_at : (c : Bool) (x : Pair) (w : World Task) → At w → IfGoes (edge_fired c x w) At
    fired_at true x w h = goes_then (begin_pairs None (x ∷ []) w) _ (λ b. At b.world) At (pairs_at (x ∷ []) w h) (λ b g. g)
    fired_at false x w h = h

    one_at : (x : Pair) (w : World Task) → At w → IfGoes (edge_one p x w) At
    one_at x w h = goes_any (values (edge_view p x.of w) (inputs_of x.head.hat) w.words) _ At
        (λ d.
        let b = edge_value x.head.hat (number_at (codes "VALUE") (arguments_of x.head.hat d.value)) w.devices in
        fired_at (b && not (recorded (hat_block x.head) (edges_of (live x.of w.targets)))) x (edge_noted x b (record w { words = d.words })) h)

    edges_at : (xs : List Pair) (w : World Task) → At w → IfGoes (edges_passed p xs w) At
    edges_at [] w h = h
    edges_at (x ∷ xs) w h = goes_then (edge_one p x w) _ At At (one_at x w h) (edges_at xs)

    -- Lines

    started_at : (f : Filter) (w : World Task) → At w → IfGoes (started p f w) At
    started_at f w h = goes_then (begin p None f w) _ (λ b. At b.world) At (begin_at None f w h) (λ b g. g)

    key_at : (key : Key) (w : World Task) → At w → IfGoes (key_down p key w) At
    key_at key w h = goes_then (started p (KeyHats (key_name key)) w) _ At At (started_at (KeyHats (key_name key)) w h)
        (λ x g. goes_then (started p (KeyHats (codes "any")) x) _ At At (started_at (KeyHats (codes "any")) x g) (λ y k. k))

    clicked_at : (o : Option Instance) (w : World Task) → At w → IfGoes (clicked p o w) At
    clicked_at None w h = h
    clicked_at (Some i) w h = started_at (Clicked i.number) w h

    answered_at : (qs : List Question) (w : World Task) → At w → IfGoes (answered qs w) At
    answered_at [] w h = h
    answered_at (q ∷ qs) w h = goes_then (first_taken q.bubble q.of (record (scene_of w) { devices = record w.devices { questions = qs } })) _ SceneAt At
        (taken_at q.bubble q.of (record (scene_of w) { devices = record w.devices { questions = qs } }) h) (λ s g. g)

-- a frame sets the clock once
frame_reads : (p : Program) (b : Budget) (w : World Task) → IfGoes (frame p b w) (λ v. v.devices.clock ≡ b.clock)
frame_reads p b w =
    let At : World Task → Type 0 = λ v. v.devices.clock ≡ b.clock in
    goes_then (timers_ended (length w.devices.timers) (at_clock b.clock w)) _ At At (timers_at b.clock p (length w.devices.timers) (at_clock b.clock w) refl)
    (λ x g. goes_then (edges_passed p (edges p x) x) _ At At (edges_at b.clock p (edges p x) x g)
    (λ y k. goes_then (passes p b.warp b.passes true true (record y { redraw = false })) numbered At At (passes_at b.clock p b.warp b.passes true true (record y { redraw = false }) k)
    (λ z m. number_by _ counter.Frame (Goes (record z { frame = z.frame + 1 })) At m)))

-- the clock of the world behind a line
pub line_reads : (p : Program) (l : Line) (w : World Task) → IfGoes (after p l w) (λ v. v.devices.clock ≡ clock_after w.devices.clock (Good l))
line_reads p line.Nothing w = refl
line_reads p line.Flag w = started_at w.devices.clock p Flag (reset p.records w) refl
line_reads p line.Stop w = refl
line_reads p (line.KeyDown key) w = key_at w.devices.clock p key w refl
line_reads p (line.KeyUp key) w = refl
line_reads p (line.Mouse x y) w = refl
line_reads p (line.Button down) w = refl
line_reads p (line.Click place) w = clicked_at w.devices.clock p (slice_get w.targets place) w refl
line_reads p (line.Answer text) w = answered_at w.devices.clock p w.devices.questions (with_answer text w) refl
line_reads p (line.Turbo on) w = refl
line_reads p (line.Frame b) w = frame_reads p b w
