-- Executions, slices and passes keep the numbers of a world within the limit.
use Rattle.std.proofs.Common.{ℕ, zero, suc, ◌==◌, Bool, true, false, not, ◌||◌, if◌then◌else◌, List, [], ◌∷◌, filter, drop, Option, Some, None}
use Rattle.std.specs.Prelude.{IfSome}
use Rattle.opcode_table.specs.declared.groups.Group.{Group}
use Rattle.opcode_table.specs.declared.groups.Group.TheVariants.{Motion, Looks, Data, Control as ControlGroup}
use Rattle.opcode_table.specs.Kinds.{group}
use Rattle.script_words.specs.declared.stops.CounterKind.TheVariants as counter
use Rattle.scratch_values.specs.Named.{Arguments}
use Rattle.machine_spec.specs.declared.instance.Instance.{Instance}
use Rattle.machine_spec.specs.declared.threads.Context.{Context}
use Rattle.machine_spec.specs.declared.threads.Context.TheVariants.{Fresh, Called}
use Rattle.machine_spec.specs.declared.threads.Control.{Control}
use Rattle.machine_spec.specs.declared.threads.Control.TheVariants.{Next, Branch as Enter, Yield, YieldTick, Promise, Call, StopThis, StopOthers, StopAll, DeleteClone, Start, Clone}
use Rattle.machine_spec.specs.declared.threads.Filter.TheVariants.{CloneStart}
use Rattle.machine_spec.specs.declared.threads.Status.TheVariants.{Running}
use Rattle.machine_spec.specs.declared.threads.Which.TheVariants.{Slot}
use Rattle.machine_spec.specs.Outcome.{Outcome, Goes, IfGoes}
use Rattle.machine_spec.specs.Words.{Words}
use Rattle.machine_spec.specs.Script.{Statement, Command, command_of, inputs_of}
use Rattle.machine_spec.specs.Program.{Program, Records}
use Rattle.machine_spec.specs.Threads.{Params, is_done}
use Rattle.machine_spec.specs.Stores.{instance_at, store_at}
use Rattle.machine_spec.specs.Parts.{Scene}
use Rattle.machine_spec.specs.Motion.{motion_row}
use Rattle.machine_spec.specs.Looks.{looks_row}
use Rattle.machine_spec.specs.DataRows.{data_row}
use Rattle.machine_spec.specs.ControlRows.{control_row}
use Rattle.machine_spec.specs.Evaluate.{evaluated, values}
use Rattle.machine_spec.specs.Pending.{Item, Do, Held, Returned, Branch, Again, Back, Position, gone, settle, params_in}
use Rattle.machine_spec.specs.Places.{place, running}
use Rattle.machine_spec.specs.Stopping.{scene_of, with_scene, bubble_emptied, first_taken, is_first_of, without_questions, questions_dropped, is_clone, disposed, cleared, all_stopped, copied, clone_added, inserted_behind, placed_behind, has_no_room}
use Rattle.machine_spec.specs.Tasks.{Task, listed, levels, begin}
use Rattle.machine_spec.specs.World.{World}
use Rattle.machine_spec.specs.Step.{Applied, row_by, row, position, opens_level, Moment, moved, moved_with_room, after_start, others_stopped, clone_deleted, cloned, cloned_unless, deleted_if, act, view_of, execute, execute_first, step_by, step}
use Rattle.machine_spec.specs.Slice.{go_on, is_late, counted_after, slice_goes_on, slice_by, executing, most_executions, turn_of, turn_by, turn, woken, without_detached, Passed, visit, next_place, pass_on, pass, without_done}
use Rattle.laws_of_threads.specs.Lists.{Each}
use Rattle.laws_of_threads.proofs.Numbers.{each_filter}
use Rattle.laws_of_threads.proofs.RowFits.{goes_then}
use Rattle.laws_of_threads.proofs.Calm.{number_goes}
use Rattle.laws_of_threads.proofs.Starts.{room_goes}
use Rattle.laws_of_turns.specs.Within.{IsContextWithin, AreParamsWithin, IsInstanceWithin, IsStoreWithin, IsProgramWithin}
use Rattle.laws_of_turns.proofs.Lists.{each_last, each_over, each_first_removed}
use Rattle.laws_of_turns.proofs.Values.{AreArgumentsWithin, instance_within, store_within, values_within}
use Rattle.laws_of_turns.proofs.Rows.{IsControlWithin, IsRowWithin, if_goes, IsMotionWithin, motion_within}
use Rattle.laws_of_turns.proofs.LooksRows.{IsSceneWithin, IsLooksWithin, updated_within, looks_row_within}
use Rattle.laws_of_turns.proofs.DataRows.{IsDataWithin, data_row_within}
use Rattle.laws_of_turns.proofs.ControlRows.{shown_within, control_row_within}
use Rattle.laws_of_turns.proofs.Threads.{RunsWithin, ItemsRun, TaskRuns, WorldRuns, BegunRuns, settle_runs, position_runs, started_runs, params_within, on_place_runs, running_runs, moved_runs, finished_runs, begin_runs}

-- Scenes, words

pub words_run : (words : Words) (w : World Task) → WorldRuns w → WorldRuns (record w { words = words })
words_run words w h = record { instances = h.instances; stores = h.stores; crew = h.crew }

pub scene_runs : (w : World Task) (s : Scene) → IsSceneWithin s → WorldRuns w → WorldRuns (with_scene w s)
scene_runs w s g h = record { instances = g; stores = h.stores; crew = h.crew }

pub emptied_within : (n : ℕ) (s : Scene) → IsSceneWithin s → IfGoes (bubble_emptied n s) IsSceneWithin
emptied_within n s h = updated_within n (instance_at n s.targets).bubble.kind [] s h

pub taken_within : (b : Bool) (of : ℕ) (s : Scene) → IsSceneWithin s → IfGoes (first_taken b of s) IsSceneWithin
taken_within b of s h = goes_then (if b then bubble_emptied of s else Goes s) _ IsSceneWithin IsSceneWithin (if_goes b _ _ IsSceneWithin (emptied_within of s h) h) (λ v k. shown_within v.devices.questions v k)

dropped_within : (n : ℕ) (s : Scene) → IsSceneWithin s → IfGoes (questions_dropped n s) IsSceneWithin
dropped_within n s h = if_goes (is_first_of n s.devices.questions) _ _ IsSceneWithin (taken_within true n (without_questions n s) h) h

-- What controls do with the world

disposed_runs : (n : ℕ) (w : World Task) → WorldRuns w → WorldRuns (disposed n w)
disposed_runs n w h = record {
  instances = each_first_removed IsInstanceWithin (λ i. i.number == n) w.targets h.instances;
  stores = each_first_removed IsStoreWithin (λ s. s.of == n) w.variables.stores h.stores;
  crew = h.crew;
}

pub stopped_runs : (records : Records) (w : World Task) → WorldRuns w → WorldRuns (all_stopped records w)
stopped_runs records w h = record {
  instances = each_over IsInstanceWithin IsInstanceWithin cleared (filter (λ i. not (is_clone records i.number)) w.targets) (λ i k. record { x = k.x; y = k.y; direction = k.direction; size = k.size })
      (each_filter IsInstanceWithin (λ i. not (is_clone records i.number)) w.targets h.instances);
  stores = each_filter IsStoreWithin (λ s. not (is_clone records s.of)) w.variables.stores h.stores;
  crew = record { listed = tt; detached = tt };
}

added_runs : (original : ℕ) (w : World Task) → WorldRuns w → WorldRuns (clone_added original w)
added_runs original w h =
    let i = instance_within original w.targets h.instances in
    let s = store_within original w.variables.stores h.stores in
    record {
      instances = each_last IsInstanceWithin w.targets (copied w.next_instance (instance_at original w.targets)) h.instances (record { x = i.x; y = i.y; direction = i.direction; size = i.size });
      stores = each_last IsStoreWithin w.variables.stores (record (store_at original w.variables.stores) { of = w.next_instance }) h.stores (record { values = s.values; lists = s.lists });
      crew = h.crew;
    }

behind_if : (b : Bool) (clone i : Instance) (is js : List Instance) → IsInstanceWithin clone → IsInstanceWithin i → Each IsInstanceWithin is → Each IsInstanceWithin js → Each IsInstanceWithin (if b then clone ∷ i ∷ is else i ∷ js)
behind_if true clone i is js c g h k = (c, (g, h))
behind_if false clone i is js c g h k = (g, k)

behind_within : (clone : Instance) (n : ℕ) (is : List Instance) → IsInstanceWithin clone → Each IsInstanceWithin is → Each IsInstanceWithin (inserted_behind clone n is)
behind_within clone n [] c h = tt
behind_within clone n (i ∷ is) c h = behind_if (i.number == n) clone i is (inserted_behind clone n is) c h.0 h.1 (behind_within clone n is c h.1)

placed_within : (clone original : ℕ) (is : List Instance) → Each IsInstanceWithin is → Each IsInstanceWithin (placed_behind clone original is)
placed_within clone original is h = behind_within (instance_at clone is) original _ (instance_within clone is h) (each_first_removed IsInstanceWithin (λ i. i.number == clone) is h)

abbrev pub MomentRuns : Moment (World Task) → Type 0
MomentRuns m = WorldRuns m.world

module _ (p : Program) (good : IsProgramWithin p) (i : ℕ) where
  others_run : (of : ℕ) (w : World Task) → WorldRuns w → IfGoes (others_stopped i of w) WorldRuns
  others_run of w h = goes_then (questions_dropped of (scene_of w)) _ IsSceneWithin WorldRuns (dropped_within of (scene_of w) h.instances)
      (λ s k. record { instances = k; stores = h.stores; crew = finished_runs (Some (place i w.threads)) of w.threads h.crew })

  deleted_runs : (n : ℕ) (w : World Task) → WorldRuns w → IfGoes (clone_deleted n w) WorldRuns
  deleted_runs n w h =
      let d = disposed_runs n w h in
      goes_then (questions_dropped n (scene_of (disposed n w))) _ IsSceneWithin WorldRuns (dropped_within n (scene_of (disposed n w)) d.instances)
      (λ s k. record { instances = k; stores = d.stores; crew = finished_runs None n w.threads h.crew })

  cloned_runs : (original : ℕ) (w : World Task) → WorldRuns w → IfGoes (cloned p i original w) WorldRuns
  cloned_runs original w h = number_goes counter.Instance w.next_instance _ WorldRuns
      (goes_then (begin p (Some i) (CloneStart w.next_instance) (clone_added original w)) _ BegunRuns WorldRuns (begin_runs p good (Some i) (CloneStart w.next_instance) (clone_added original w) (added_runs original w h))
      (λ b k. record { instances = placed_within w.next_instance original b.world.targets k.instances; stores = k.stores; crew = k.crew }))

  unless_runs : (b : Bool) (original : ℕ) (w : World Task) → WorldRuns w → IfGoes (cloned_unless b p i original w) WorldRuns
  unless_runs true original w h = h
  unless_runs false original w h = cloned_runs original w h

  deleted_if_runs : (b : Bool) (t : Task) (x : Position) (w : World Task) → ItemsRun x.items → WorldRuns w → IfGoes (deleted_if b i t x w) MomentRuns
  deleted_if_runs true t x w g h = goes_then (clone_deleted t.of w) _ WorldRuns MomentRuns (deleted_runs t.of w h) (λ v k. moved_runs i gone v tt k)
  deleted_if_runs false t x w g h = moved_runs i x w g h

  with_room_runs : (b : Bool) (x : Position) (w : World Task) → ItemsRun x.items → WorldRuns w → IfGoes (moved_with_room b i x w) MomentRuns
  with_room_runs true x w g h = room_goes (levels w) (moved i x w) MomentRuns (moved_runs i x w g h)
  with_room_runs false x w g h = moved_runs i x w g h

  module _ (late : Bool) (t : Task) (s : Statement) (r : List Item) (runs : RunsWithin s) (rest : ItemsRun r) where
    own_runs : (control : Control) (c : Context) (w : World Task) → IsControlWithin control → IsContextWithin c → WorldRuns w → IfGoes (moved_with_room (opens_level control) i (position p late t.warp s r control c) w) MomentRuns
    own_runs control c w g k h = with_room_runs (opens_level control) (position p late t.warp s r control c) w (position_runs p good late t.warp s r control c runs g k rest) h

    act_runs : (control : Control) (c : Context) (w : World Task) → IsControlWithin control → IsContextWithin c → WorldRuns w → IfGoes (act p i late t s r control c w) MomentRuns
    act_runs StopOthers c w g k h = goes_then (others_stopped i t.of w) _ WorldRuns MomentRuns (others_run t.of w h) (λ v m. moved_runs i (settle r t.warp) v (settle_runs r t.warp rest) m)
    act_runs StopAll c w g k h = stopped_runs p.records w h
    act_runs DeleteClone c w g k h = deleted_if_runs (is_clone p.records t.of) t (settle r t.warp) w (settle_runs r t.warp rest) h
    act_runs (Start hats wait) c w g k h = goes_then (begin p (Some i) hats w) _ BegunRuns MomentRuns (begin_runs p good (Some i) hats w h)
        (λ b m. moved_runs i (after_start wait b.serials s t.warp r) b.world (started_runs wait b.serials s t.warp r runs rest) m)
    act_runs (Clone original) c w g k h = goes_then (cloned_unless (has_no_room p.records original w) p i original w) _ WorldRuns MomentRuns (unless_runs (has_no_room p.records original w) original w h)
        (λ v m. moved_runs i (settle r t.warp) v (settle_runs r t.warp rest) m)
    act_runs Next c w g k h = own_runs Next c w g k h
    act_runs (Enter n is_loop) c w g k h = own_runs (Enter n is_loop) c w g k h
    act_runs Yield c w g k h = own_runs Yield c w g k h
    act_runs YieldTick c w g k h = own_runs YieldTick c w g k h
    act_runs Promise c w g k h = own_runs Promise c w g k h
    act_runs (Call definition params) c w g k h = own_runs (Call definition params) c w g k h
    act_runs StopThis c w g k h = own_runs StopThis c w g k h

  -- Rows

  record AppliedRuns (x : Applied) : Type 0 where
    world : WorldRuns x.world
    context : IsContextWithin x.context
    control : IsControlWithin x.control

  row_by_runs : (g : Group) (d : Command) (a : Arguments) (here thread : ℕ) (c : Context) (w : World Task) → AreArgumentsWithin a → IsContextWithin c → WorldRuns w → IfGoes (row_by g p d a here thread c w) AppliedRuns
  row_by_runs Motion d a here thread c w g k h = goes_then (motion_row p.records w.devices d.op a here c (record { targets = w.targets; words = w.words })) _ (IsRowWithin IsMotionWithin) AppliedRuns
      (motion_within p.records w.devices here d.op a c (record { targets = w.targets; words = w.words }) g k h.instances)
      (λ x m. record { world = record { instances = m.parts; stores = h.stores; crew = h.crew }; context = m.context; control = m.control })
  row_by_runs Looks d a here thread c w g k h = goes_then (looks_row p.records (listed w) d.op a here thread c (record { scene = scene_of w; words = w.words })) _ (IsRowWithin IsLooksWithin) AppliedRuns
      (looks_row_within p.records (listed w) here thread d.op a c (record { scene = scene_of w; words = w.words }) g h.instances)
      (λ x m. record { world = record { instances = m.parts; stores = h.stores; crew = h.crew }; context = m.context; control = m.control })
  row_by_runs Data d a here thread c w g k h = goes_then (data_row p.records w.targets d.op a here (record { variables = w.variables; words = w.words })) _ (IsRowWithin IsDataWithin) AppliedRuns
      (data_row_within p.records w.targets d.op a here (record { variables = w.variables; words = w.words }) g h.stores)
      (λ x m. record { world = record { instances = h.instances; stores = m.parts; crew = h.crew }; context = m.context; control = m.control })
  row_by_runs ControlGroup d a here thread c w g k h = goes_then (control_row p (listed w) d.op d.code a here thread c (scene_of w)) _ (IsRowWithin IsSceneWithin) AppliedRuns
      (control_row_within p good (listed w) d.code here thread d.op a c (scene_of w) g k h.instances)
      (λ x m. record { world = record { instances = m.parts; stores = h.stores; crew = h.crew }; context = m.context; control = m.control })

  -- Executions

  execute_runs : (late : Bool) (t : Task) (s : Statement) (c : Context) (params : Params) (r : List Item) (w : World Task) → RunsWithin s → IsContextWithin c → AreParamsWithin params → ItemsRun r → WorldRuns w
      → IfGoes (execute p i late t s c params r w) MomentRuns
  execute_runs late t s c params r w runs k ps rest h =
      goes_then (evaluated (view_of p t params w) s w.words) _ (λ d. AreArgumentsWithin d.value) MomentRuns
      (goes_then (values (view_of p t params w) (inputs_of s) w.words) _ (λ d. AreParamsWithin d.value) (λ d. AreArgumentsWithin d.value)
      (values_within (view_of p t params w) (record { records = good.targets; targets = h.instances; stores = h.stores; params = ps }) (inputs_of s) w.words runs.0) (λ d m. m))
      (λ d m. goes_then (row p (command_of s) d.value t.of t.serial c (record w { words = d.words })) _ AppliedRuns MomentRuns
      (row_by_runs (group (command_of s).op) (command_of s) d.value t.of t.serial c (record w { words = d.words }) m k (words_run d.words w h))
      (λ x n. act_runs late t s r runs rest x.control x.context x.world n.control n.context n.world))

  first_runs : (late : Bool) (t : Task) (items : List Item) (w : World Task) → ItemsRun items → WorldRuns w → IfGoes (execute_first p i late t items w) MomentRuns
  first_runs late t [] w g h = h
  first_runs late t (Do s ∷ r) w g h = execute_runs late t s Fresh (params_in r) r w g.0 tt (params_within r g.1) g.1 h
  first_runs late t (Held s c ∷ r) w g h = execute_runs late t s c (params_in r) r w g.0.0 g.0.1 (params_within r g.1) g.1 h
  first_runs late t (Returned s ps ∷ r) w g h = execute_runs late t s Called ps r w g.0.0 tt g.0.1 g.1 h
  first_runs late t (Branch s v ∷ r) w g h = h
  first_runs late t (Again s c v ∷ r) w g h = h
  first_runs late t (Back s ps v ∷ r) w g h = h

  step_by_runs : (late : Bool) (o : Option Task) (w : World Task) → IfSome o TaskRuns → WorldRuns w → IfGoes (step_by p i late o w) MomentRuns
  step_by_runs late None w g h = h
  step_by_runs late (Some t) w g h = first_runs late t t.items w g h

  step_runs : (late : Bool) (w : World Task) → WorldRuns w → IfGoes (step p i late w) MomentRuns
  step_runs late w h = step_by_runs late (running i w.threads) w (running_runs i w.threads h.crew) h

  -- Slices

  go_on_runs : (b : Bool) (w : World Task) (rest : World Task → Outcome (World Task)) → ((v : World Task) → WorldRuns v → IfGoes (rest v) WorldRuns) → WorldRuns w → IfGoes (go_on b rest (λ v. Goes v) w) WorldRuns
  go_on_runs true w rest f h = f w h
  go_on_runs false w rest f h = h

  slice_runs : (budget n m : ℕ) (w : World Task) → WorldRuns w → IfGoes (slice_by (executing p i) budget n m w) WorldRuns
  unfolding slice_by
  slice_runs budget zero m w h = h
  slice_runs budget (suc n) m w h =
      let e = executing p i in
      goes_then (step p i (is_late budget m) w) _ MomentRuns WorldRuns (step_runs (is_late budget m) w h)
      (λ x g. go_on_runs (slice_goes_on x.report (e.flag w) (e.flag x.world) (is_late budget (counted_after m (e.flag w)))) x.world (slice_by e budget n (counted_after m (e.flag w)))
      (λ v k. slice_runs budget n (counted_after m (e.flag w)) v k) g)

  turn_of_runs : (budget : ℕ) (items : List Item) (w : World Task) → WorldRuns w → IfGoes (turn_of p budget i items w) WorldRuns
  turn_of_runs budget [] w h = moved_runs i gone w tt h
  turn_of_runs budget (x ∷ r) w h = slice_runs budget most_executions 0 w h

  turn_by_runs : (budget : ℕ) (o : Option Task) (w : World Task) → WorldRuns w → IfGoes (turn_by p budget i o w) WorldRuns
  turn_by_runs budget None w h = h
  turn_by_runs budget (Some t) w h = turn_of_runs budget t.items w h

-- Passes

woken_runs : (i : ℕ) (w : World Task) → WorldRuns w → WorldRuns (woken i w)
woken_runs i w h = record { instances = h.instances; stores = h.stores; crew = on_place_runs (λ t. record t { status = Running }) (Slot i) w.threads (λ t k. k) h.crew }

undetached_runs : (w : World Task) → WorldRuns w → WorldRuns (without_detached w)
undetached_runs w h = record { instances = h.instances; stores = h.stores; crew = record { listed = h.crew.listed; detached = tt } }

abbrev pub PassedRuns : Passed → Type 0
PassedRuns x = WorldRuns x.world

module _ (p : Program) (good : IsProgramWithin p) where
  visit_runs : (budget i : ℕ) (w : World Task) → WorldRuns w → IfGoes (visit p budget i w) PassedRuns
  visit_runs budget i w h = goes_then (turn p budget i (woken i w)) _ WorldRuns PassedRuns (turn_by_runs p good i budget (running i (woken i w).threads) (woken i w) (woken_runs i w h))
      (λ v k. undetached_runs v k)

  pass_on_runs : (budget : ℕ) (o : Option ℕ) (w : World Task) (active : Bool) (rest : ℕ → World Task → Bool → Outcome Passed) → ((j : ℕ) (v : World Task) (a : Bool) → WorldRuns v → IfGoes (rest j v a) PassedRuns) → WorldRuns w
      → IfGoes (pass_on p budget o w active rest) PassedRuns
  pass_on_runs budget None w active rest f h = h
  pass_on_runs budget (Some j) w active rest f h = goes_then (visit p budget j w) _ PassedRuns PassedRuns (visit_runs budget j w h) (λ x k. f (suc j) x.world (active || x.active) k)

  pub pass_runs : (first : Bool) (budget n i : ℕ) (w : World Task) (active : Bool) → WorldRuns w → IfGoes (pass p first budget n i w active) PassedRuns
  unfolding pass
  pass_runs first budget zero i w active h = h
  pass_runs first budget (suc n) i w active h = pass_on_runs budget (next_place first i (drop i w.threads.list)) w active (pass p first budget n) (λ j v a k. pass_runs first budget n j v a k) h

pub without_done_runs : (w : World Task) → WorldRuns w → WorldRuns (without_done w)
without_done_runs w h = record { instances = h.instances; stores = h.stores; crew = record { listed = each_filter TaskRuns (λ t. not (is_done t.status)) w.threads.list h.crew.listed; detached = tt } }
