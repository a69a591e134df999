-- Frames and all other lines keep the numbers of a world within the limit.
use Rattle.std.proofs.Common.{ℕ, zero, suc, ◌+◌, Bool, true, false, not, ◌&&◌, if◌then◌else◌, List, [], ◌∷◌, length, Option, Some, None}
use Rattle.std.specs.Prelude.{codes, slice_get}
use Rattle.std.specs.List.{list_any}
use Rattle.opcode_table.specs.Kinds.{hat_kind}
use Rattle.script_words.specs.declared.stops.CounterKind.TheVariants as counter
use Rattle.machine_spec.specs.declared.instance.Instance.{Instance}
use Rattle.machine_spec.specs.declared.devices.Key.{Key}
use Rattle.machine_spec.specs.declared.devices.Question.{Question}
use Rattle.machine_spec.specs.declared.devices.BubbleTimer.{BubbleTimer}
use Rattle.machine_spec.specs.declared.lines.Budget.{Budget}
use Rattle.machine_spec.specs.declared.lines.Line.{Line}
use Rattle.machine_spec.specs.declared.lines.Line.TheVariants as line
use Rattle.machine_spec.specs.declared.threads.Filter.{Filter}
use Rattle.machine_spec.specs.declared.threads.Filter.TheVariants.{Key as KeyHats, Flag, Clicked}
use Rattle.machine_spec.specs.Outcome.{Outcome, Goes, IfGoes, then_do}
use Rattle.machine_spec.specs.Script.{op_of, inputs_of}
use Rattle.machine_spec.specs.Program.{Program, hat_block}
use Rattle.machine_spec.specs.Stores.{Devices, live}
use Rattle.machine_spec.specs.View.{number_at}
use Rattle.machine_spec.specs.Evaluate.{arguments_of, values}
use Rattle.machine_spec.specs.Starting.{Pair, pairs, is_alive_of}
use Rattle.machine_spec.specs.Stopping.{scene_of, with_scene, bubble_emptied, first_taken, all_stopped}
use Rattle.machine_spec.specs.Parts.{Scene}
use Rattle.machine_spec.specs.Tasks.{Task, tasks, begin_pairs, begin}
use Rattle.machine_spec.specs.World.{World}
use Rattle.machine_spec.specs.Slice.{go_on, pass, most_slices, without_done}
use Rattle.machine_spec.specs.Frame.{Found, next_due, without_timer, still_fits, timer_ended, end_due, timers_ended, is_edge_hat, edges, edge_value, recorded, with_edge, edges_of, edge_noted, edge_fired, edge_view, edge_one, edges_passed, passes_go_on, passes, at_clock, numbered, frame}
use Rattle.machine_spec.specs.Line.{started, key_name, with_key, without_key, with_keys, key_down, without_edges, reset, clicked, with_answer, answered, after}
use Rattle.laws_of_threads.specs.Lists.{Each}
use Rattle.laws_of_threads.proofs.Numbers.{each_filter}
use Rattle.laws_of_threads.proofs.RowFits.{goes_then, goes_any}
use Rattle.laws_of_threads.proofs.Calm.{number_goes}
use Rattle.laws_of_turns.specs.Within.{IsInstanceWithin, IsProgramWithin}
use Rattle.laws_of_turns.proofs.Lists.{each_over}
use Rattle.laws_of_turns.proofs.Rows.{if_goes, on_instance_within}
use Rattle.laws_of_turns.proofs.LooksRows.{IsSceneWithin}
use Rattle.laws_of_turns.proofs.Threads.{WorldRuns, PairRuns, BegunRuns, resumed_runs, pairs_run, begin_pairs_run, begin_runs}
use Rattle.laws_of_turns.proofs.Executions.{scene_runs, emptied_within, taken_within, stopped_runs, words_run, PassedRuns, pass_runs, without_done_runs}

devices_run : (d : Devices) (w : World Task) → WorldRuns w → WorldRuns (record w { devices = d })
devices_run d w h = record { instances = h.instances; stores = h.stores; crew = h.crew }

-- Bubble timers

ended_runs : (t : BubbleTimer) (w : World Task) → WorldRuns w → IfGoes (timer_ended t w) WorldRuns
ended_runs t w h = goes_then (if still_fits t (live t.of w.targets) then bubble_emptied t.of (scene_of w) else Goes (scene_of w)) _ IsSceneWithin WorldRuns
    (if_goes (still_fits t (live t.of w.targets)) _ _ IsSceneWithin (emptied_within t.of (scene_of w) h.instances) h.instances)
    (λ s k. resumed_runs t.thread (with_scene w s) (scene_runs w s k h))

due_runs : (o : Option Found) (w : World Task) (rest : World Task → Outcome (World Task)) → ((v : World Task) → WorldRuns v → IfGoes (rest v) WorldRuns) → WorldRuns w → IfGoes (end_due o w rest) WorldRuns
due_runs None w rest f h = h
due_runs (Some x) w rest f h = goes_then (timer_ended x.timer (without_timer x.at w)) rest WorldRuns WorldRuns (ended_runs x.timer (without_timer x.at w) (devices_run (without_timer x.at w).devices w h)) f

timers_run : (n : ℕ) (w : World Task) → WorldRuns w → IfGoes (timers_ended n w) WorldRuns
unfolding timers_ended
timers_run zero w h = h
timers_run (suc n) w h = due_runs (next_due w.devices.clock 0 w.devices.timers) w (timers_ended n) (λ v k. timers_run n v k) h

module _ (p : Program) (good : IsProgramWithin p) where
  -- Edge hats

  noted_runs : (x : Pair) (v : Bool) (w : World Task) → WorldRuns w → WorldRuns (edge_noted x v w)
  noted_runs x v w h = record {
    instances = on_instance_within x.of (λ i. record i { edges = with_edge (hat_block x.head) v i.edges }) w.targets (λ i k. record { x = k.x; y = k.y; direction = k.direction; size = k.size }) h.instances;
    stores = h.stores;
    crew = h.crew;
  }

  fired_runs : (b : Bool) (x : Pair) (w : World Task) → PairRuns x → WorldRuns w → IfGoes (edge_fired b x w) WorldRuns
  fired_runs true x w g h = goes_then (begin_pairs None (x ∷ []) w) _ BegunRuns WorldRuns (begin_pairs_run None (x ∷ []) w (g, tt) h) (λ b k. k)
  fired_runs false x w g h = h

  edge_runs : (x : Pair) (w : World Task) → PairRuns x → WorldRuns w → IfGoes (edge_one p x w) WorldRuns
  edge_runs x w g h = goes_any (values (edge_view p x.of w) (inputs_of x.head.hat) w.words) _ WorldRuns
      (λ d.
      let b = edge_value x.head.hat (number_at (codes "VALUE") (arguments_of x.head.hat d.value)) w.devices in
      fired_runs (b && not (recorded (hat_block x.head) (edges_of (live x.of w.targets)))) x (edge_noted x b (record w { words = d.words })) g
      (noted_runs x b (record w { words = d.words }) (words_run d.words w h)))

  edges_run : (xs : List Pair) (w : World Task) → Each PairRuns xs → WorldRuns w → IfGoes (edges_passed p xs w) WorldRuns
  edges_run [] w g h = h
  edges_run (x ∷ xs) w g h = goes_then (edge_one p x w) _ WorldRuns WorldRuns (edge_runs x w g.0 h) (λ v k. edges_run xs v g.1 k)

  edge_pairs_run : (w : World Task) → Each PairRuns (edges p w)
  edge_pairs_run w = each_filter PairRuns (λ x. not (list_any (is_alive_of tasks x) w.threads.list)) (pairs p (λ s. is_edge_hat (hat_kind (op_of s))) w.targets) (pairs_run p good (λ s. is_edge_hat (hat_kind (op_of s))) w.targets)

  -- Passes

  on_runs : (b : Bool) (w : World Task) (rest : World Task → Outcome (World Task)) → IfGoes (rest w) WorldRuns → WorldRuns w → IfGoes (go_on b rest (λ v. Goes v) w) WorldRuns
  on_runs true w rest f h = f
  on_runs false w rest f h = h

  passes_run : (budget n : ℕ) (first active : Bool) (w : World Task) → WorldRuns w → IfGoes (passes p budget n first active w) WorldRuns
  unfolding passes
  passes_run budget zero first active w h = h
  passes_run budget (suc n) first active w h =
      on_runs (passes_go_on active w) w (λ v. then_do (pass p first budget most_slices 0 v false) (λ x. passes p budget n false x.active (without_done x.world)))
      (goes_then (pass p first budget most_slices 0 w false) _ PassedRuns WorldRuns (pass_runs p good first budget most_slices 0 w false h)
      (λ x k. passes_run budget n false x.active (without_done x.world) (without_done_runs x.world k))) h

  frame_runs : (b : Budget) (w : World Task) → WorldRuns w → IfGoes (frame p b w) WorldRuns
  frame_runs b w h =
      goes_then (timers_ended (length w.devices.timers) (at_clock b.clock w)) _ WorldRuns WorldRuns (timers_run (length w.devices.timers) (at_clock b.clock w) (devices_run (at_clock b.clock w).devices w h))
      (λ x g. goes_then (edges_passed p (edges p x) x) _ WorldRuns WorldRuns (edges_run (edges p x) x (edge_pairs_run x) g)
      (λ y k. goes_then (passes p b.warp b.passes true true (record y { redraw = false })) numbered WorldRuns WorldRuns
      (passes_run b.warp b.passes true true (record y { redraw = false }) (record { instances = k.instances; stores = k.stores; crew = k.crew }))
      (λ z m. number_goes counter.Frame z.frame (Goes (record z { frame = z.frame + 1 })) WorldRuns (record { instances = m.instances; stores = m.stores; crew = m.crew }))))

  -- Other lines

  hats_run : (f : Filter) (w : World Task) → WorldRuns w → IfGoes (started p f w) WorldRuns
  hats_run f w h = goes_then (begin p None f w) _ BegunRuns WorldRuns (begin_runs p good None f w h) (λ b k. k)

  reset_runs : (w : World Task) → WorldRuns w → WorldRuns (reset p.records w)
  reset_runs w h = let s = stopped_runs p.records w h in record {
    instances = each_over IsInstanceWithin IsInstanceWithin without_edges (all_stopped p.records w).targets (λ i k. record { x = k.x; y = k.y; direction = k.direction; size = k.size }) s.instances;
    stores = s.stores;
    crew = s.crew;
  }

  key_down_runs : (key : Key) (w : World Task) → WorldRuns w → IfGoes (key_down p key w) WorldRuns
  key_down_runs key w h = goes_then (started p (KeyHats (key_name key)) w) _ WorldRuns WorldRuns (hats_run (KeyHats (key_name key)) w h)
      (λ x g. goes_then (started p (KeyHats (codes "any")) x) _ WorldRuns WorldRuns (hats_run (KeyHats (codes "any")) x g)
      (λ y k. devices_run (with_keys (with_key key) y).devices y k))

  clicked_runs : (o : Option Instance) (w : World Task) → WorldRuns w → IfGoes (clicked p o w) WorldRuns
  clicked_runs None w h = h
  clicked_runs (Some i) w h = hats_run (Clicked i.number) w h

  answered_runs : (qs : List Question) (w : World Task) → WorldRuns w → IfGoes (answered qs w) WorldRuns
  answered_runs [] w h = h
  answered_runs (q ∷ qs) w h =
      let s0 : Scene = record (scene_of w) { devices = record w.devices { questions = qs } } in
      goes_then (first_taken q.bubble q.of s0) _ IsSceneWithin WorldRuns (taken_within q.bubble q.of s0 h.instances) (λ s k. resumed_runs q.thread (with_scene w s) (scene_runs w s k h))

  pub line_runs : (l : Line) (w : World Task) → WorldRuns w → IfGoes (after p l w) WorldRuns
  line_runs line.Nothing w h = h
  line_runs line.Flag w h = hats_run Flag (reset p.records w) (reset_runs w h)
  line_runs line.Stop w h = stopped_runs p.records w h
  line_runs (line.KeyDown key) w h = key_down_runs key w h
  line_runs (line.KeyUp key) w h = devices_run (with_keys (without_key key) w).devices w h
  line_runs (line.Mouse x y) w h = devices_run (record w.devices { mouse_x = x; mouse_y = y }) w h
  line_runs (line.Button down) w h = devices_run (record w.devices { button = down }) w h
  line_runs (line.Click place) w h = clicked_runs (slice_get w.targets place) w h
  line_runs (line.Answer text) w h = answered_runs w.devices.questions (with_answer text w) (devices_run (with_answer text w).devices w h)
  line_runs (line.Turbo on) w h = devices_run (record w.devices { turbo = on }) w h
  line_runs (line.Frame b) w h = frame_runs b w h
