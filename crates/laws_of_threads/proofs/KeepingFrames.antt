-- A frame keeps a fact of worlds.
use Rattle.std.proofs.Common.{◌≡◌, ℕ, zero, suc, ◌+◌, Bool, true, false, not, ◌&&◌, ◌||◌, if◌then◌else◌, List, [], ◌∷◌, length, filter, reverse, drop, Option, Some, None, refl, arith}
use Rattle.std.specs.Prelude.{◌≤◌, codes, cond}
use Rattle.std.specs.List.{list_any}
use Rattle.opcode_table.specs.Kinds.{hat_kind}
use Rattle.script_words.specs.declared.stops.CounterKind.TheVariants as counter
use Rattle.machine_spec.specs.declared.instance.Instance.{Instance}
use Rattle.machine_spec.specs.declared.devices.BubbleTimer.{BubbleTimer}
use Rattle.machine_spec.specs.declared.lines.Budget.{Budget}
use Rattle.machine_spec.specs.Outcome.{Outcome, Goes, IfGoes, then_do}
use Rattle.machine_spec.specs.Script.{Statement, op_of, inputs_of}
use Rattle.machine_spec.specs.Program.{Program, Head, hat_block, scripts_at}
use Rattle.machine_spec.specs.Pending.{Item, gone}
use Rattle.machine_spec.specs.Places.{running}
use Rattle.machine_spec.specs.Stores.{live}
use Rattle.machine_spec.specs.View.{number_at}
use Rattle.machine_spec.specs.Evaluate.{arguments_of, values}
use Rattle.machine_spec.specs.Starting.{Pair, pairs_of, pairs, is_alive_of}
use Rattle.machine_spec.specs.Stopping.{scene_of, with_scene, bubble_emptied}
use Rattle.machine_spec.specs.Tasks.{Task, tasks, begin_pairs, resumed}
use Rattle.machine_spec.specs.World.{World}
use Rattle.machine_spec.specs.Step.{Moment, step}
use Rattle.machine_spec.specs.Slice.{go_on, is_late, counted_after, slice_goes_on, slice_by, executing, most_executions, turn_of, turn_by, turn, woken, without_detached, Passed, visit, next_place, pass_on, pass, most_slices, without_done}
use Rattle.machine_spec.specs.Frame.{Found, next_due, without_timer, still_fits, timer_ended, end_due, timers_ended, is_edge_hat, edges, edge_value, recorded, edges_of, edge_noted, edge_fired, edge_view, edge_one, edges_passed, passes_go_on, passes, at_clock, numbered, frame}
use Rattle.laws_of_threads.specs.Lists.{Each}
use Rattle.laws_of_threads.specs.Scripts.{IsProgram}
use Rattle.laws_of_threads.specs.Statements.{Everywhere}
use Rattle.laws_of_threads.specs.Worlds.{IsLegalWorld}
use Rattle.laws_of_threads.proofs.Numbers.{each_map, each_filter}
use Rattle.laws_of_threads.proofs.RowFits.{goes_then, goes_weaker}
use Rattle.laws_of_threads.proofs.Pairs.{PairFits, each_flat_map, each_over}
use Rattle.laws_of_threads.proofs.Moving.{Moving, After, goes_further}
use Rattle.laws_of_threads.proofs.Slices.{MayRun, step_after, further, turn_moving}
use Rattle.laws_of_threads.proofs.Passes.{Paused, Visited, place_visited, woken_moving, undetached, legal_without_done, paused_legal}
use Rattle.laws_of_threads.proofs.Timers.{timers_legal}
use Rattle.laws_of_threads.proofs.Framing.{legal_again, SameFaces, pair_on, one_legal, edges_fit}
use Rattle.laws_of_threads.proofs.Keeping.{IsEdge, KeepsAtClock}
use Rattle.laws_of_threads.proofs.KeepingStarts.{goes_both, number_known, pairs_keep}
use Rattle.laws_of_threads.proofs.KeepingSteps.{moved_keeps, step_keeps}

-- Which hats are edge hats

tested_by : (test : Statement → Bool) (c : Bool) (h : Head) (hs : List Head) → test h.hat ≡ c → Each (λ x. test x.hat ≡ true) hs → Each (λ x. test x.hat ≡ true) (cond c (h ∷ hs) hs)
tested_by test true h hs e g = (e, g)
tested_by test false h hs e g = g

tested : (test : Statement → Bool) (hs : List Head) → Each (λ x. test x.hat ≡ true) (filter (λ h. test h.hat) hs)
tested test [] = tt
tested test (h ∷ hs) = tested_by test (test h.hat) h (filter (λ x. test x.hat) hs) refl (tested test hs)

each_any : {A : Type 0} (xs : List A) → Each (λ x. Unit {0}) xs
each_any [] = tt
each_any (x ∷ xs) = (tt, each_any xs)

pairs_tested : (p : Program) (test : Statement → Bool) (is : List Instance) → Each (λ x. test x.head.hat ≡ true) (pairs p test is)
pairs_tested p test is = each_flat_map (λ i. Unit {0}) (λ x. test x.head.hat ≡ true) (pairs_of p test) (reverse is)
    (λ i u. each_over (λ x. test x.head.hat ≡ true) (λ h. record { of = i.number; head = h }) (filter (λ h. test h.hat) (scripts_at i.of p).heads) (tested test (scripts_at i.of p).heads))
    (each_any (reverse is))

each_both : {A : Type 0} (P Q : A → Type 0) (xs : List A) → Each P xs → Each Q xs → Each (λ x. P x × Q x) xs
each_both P Q [] g h = tt
each_both P Q (x ∷ xs) g h = ((g.0, h.0), each_both P Q xs g.1 h.1)

module _ (p : Program) (P : ℕ → Statement → Type 0) (Q : World Task → Type 0) (keeps : KeepsAtClock p P Q) where
  -- Timers

  emptied_by : (b : Bool) (n : ℕ) (w : World Task) → Q w → IfGoes (if b then bubble_emptied n (scene_of w) else Goes (scene_of w)) (λ s. Q (with_scene w s))
  emptied_by true n w h = keeps.emptied w n h
  emptied_by false n w h = h

  pub resumed_keeps : (n : ℕ) (w : World Task) → Q w → Q (resumed n w)
  resumed_keeps n w h = keeps.threads w (resumed n w).threads h

  timer_keeps : (t : BubbleTimer) (w : World Task) → Q w → IfGoes (timer_ended t w) Q
  timer_keeps t w h = goes_then (if still_fits t (live t.of w.targets) then bubble_emptied t.of (scene_of w) else Goes (scene_of w)) _ (λ s. Q (with_scene w s)) Q
      (emptied_by (still_fits t (live t.of w.targets)) t.of w h) (λ s g. resumed_keeps t.thread (with_scene w s) g)

  end_due_keeps : (o : Option Found) (w : World Task) (rest : World Task → Outcome (World Task)) → ((v : World Task) → Q v → IfGoes (rest v) Q) → Q w → IfGoes (end_due o w rest) Q
  end_due_keeps None w rest more h = h
  end_due_keeps (Some f) w rest more h = goes_then (timer_ended f.timer (without_timer f.at w)) rest Q Q (timer_keeps f.timer (without_timer f.at w) (keeps.timer_gone w f.at h)) more

  timers_keep : (n : ℕ) (w : World Task) → Q w → IfGoes (timers_ended n w) Q
  unfolding timers_ended
  timers_keep zero w h = h
  timers_keep (suc n) w h = end_due_keeps (next_due w.devices.clock 0 w.devices.timers) w (timers_ended n) (λ v g. timers_keep n v g) h

  -- Edge hats

  abbrev IsEdgeHat : Statement → Bool
  IsEdgeHat s = is_edge_hat (hat_kind (op_of s))

  fired_keeps : (b : Bool) (x : Pair) (w : World Task) → Q w → IfGoes (edge_fired b x w) Q
  fired_keeps true x w h = goes_then (begin_pairs None (x ∷ []) w) _ (λ b. Q b.world) Q (pairs_keep p P Q keeps None (x ∷ []) w h) (λ b g. g)
  fired_keeps false x w h = h

  edge_is : (x : Pair) (w : World Task) → PairFits p w.targets x → IsEdgeHat x.head.hat ≡ true → IsEdge p P Q w x
  edge_is x w f e = record { target = f.target; hosted = f.hosted; head = f.heads; edge = e }

  one_keeps : (x : Pair) (w : World Task) → PairFits p w.targets x → IsEdgeHat x.head.hat ≡ true → IsLegalWorld p w → Q w → IfGoes (edge_one p x w) Q
  one_keeps x w f e l h = goes_then (values (edge_view p x.of w) (inputs_of x.head.hat) w.words) _ (λ d. Q (record w { words = d.words })) Q
      (keeps.evaluates w (edge_view p x.of w) (inputs_of x.head.hat) h)
      (λ d g.
      let v : World Task = record w { words = d.words } in
      let b = edge_value x.head.hat (number_at (codes "VALUE") (arguments_of x.head.hat d.value)) w.devices in
      fired_keeps (b && not (recorded (hat_block x.head) (edges_of (live x.of w.targets)))) x (edge_noted x b v) (keeps.noted v x b (edge_is x v f e) l.sound.inhabited g))

  edges_keep : (xs : List Pair) (w : World Task) → Each (PairFits p w.targets) xs → Each (λ x. IsEdgeHat x.head.hat ≡ true) xs → IsLegalWorld p w → Q w → IfGoes (edges_passed p xs w) (λ v. IsLegalWorld p v × Q v)
  edges_keep [] w f e l h = (l, h)
  edges_keep (x ∷ xs) w f e l h = goes_then (edge_one p x w) _ (λ v. SameFaces p w v × Q v) (λ v. IsLegalWorld p v × Q v)
      (goes_both (edge_one p x w) (SameFaces p w) Q (one_legal p x w f.0 l) (one_keeps x w f.0 e.0 l h))
      (λ v g. edges_keep xs v (each_map (PairFits p w.targets) (PairFits p v.targets) xs (λ y k. pair_on p w.targets v.targets y g.0.faces k) f.1) e.1 g.0.legal g.1)

  edges_tested : (w : World Task) → Each (λ x. IsEdgeHat x.head.hat ≡ true) (edges p w)
  edges_tested w = each_filter (λ x. IsEdgeHat x.head.hat ≡ true) (λ x. not (list_any (is_alive_of tasks x) w.threads.list)) (pairs p IsEdgeHat w.targets) (pairs_tested p IsEdgeHat w.targets)

  module _ (good : IsProgram p) (everywhere : Everywhere P p) where
    -- Slices

    abbrev pub Ran : World Task → Type 0
    Ran w = Moving p w × Q w

    module _ (i : ℕ) where
      on_ran : (b : Bool) (x : Moment (World Task)) (rest : World Task → Outcome (World Task)) → (b ≡ true → goes_further x.report ≡ true) → After p i x → Q x.world
          → ((v : World Task) → Moving p v → MayRun i v → Q v → IfGoes (rest v) Ran) → IfGoes (go_on b rest (λ w. Goes w) x.world) Ran
      on_ran true x rest f h q more = more x.world h.moving (λ u e. h.free u e (f refl)) q
      on_ran false x rest f h q more = (h.moving, q)

      pub slice_keeps : (budget n m : ℕ) (w : World Task) → Moving p w → MayRun i w → Q w → IfGoes (slice_by (executing p i) budget n m w) Ran
      unfolding slice_by
      slice_keeps budget zero m w h f q = (h, q)
      slice_keeps budget (suc n) m w h f q =
          let e = executing p i in
          goes_then (step p i (is_late budget m) w) _ (λ x. After p i x × Q x.world) Ran
          (goes_both (step p i (is_late budget m) w) (After p i) (λ x. Q x.world) (step_after p good i (is_late budget m) w h f) (step_keeps p P Q keeps good everywhere i (is_late budget m) w h f q))
          (λ x g. on_ran (slice_goes_on x.report (e.flag w) (e.flag x.world) (is_late budget (counted_after m (e.flag w)))) x
          (slice_by e budget n (counted_after m (e.flag w)))
          (further p good i x.report (e.flag w) (e.flag x.world) (is_late budget (counted_after m (e.flag w)))) g.0 g.1
          (λ v a b c. slice_keeps budget n (counted_after m (e.flag w)) v a b c))

      turn_of_keeps : (budget : ℕ) (items : List Item) (w : World Task) → Moving p w → MayRun i w → Q w → IfGoes (turn_of p budget i items w) Q
      turn_of_keeps budget [] w h f q = moved_keeps p P Q keeps i gone w q
      turn_of_keeps budget (x ∷ r) w h f q = goes_weaker (slice_by (executing p i) budget most_executions 0 w) Ran Q (λ v g. g.1) (slice_keeps budget most_executions 0 w h f q)

      turn_by_keeps : (budget : ℕ) (o : Option Task) (w : World Task) → Moving p w → MayRun i w → Q w → IfGoes (turn_by p budget i o w) Q
      turn_by_keeps budget None w h f q = q
      turn_by_keeps budget (Some t) w h f q = turn_of_keeps budget t.items w h f q

      turn_keeps : (budget : ℕ) (w : World Task) → Moving p w → MayRun i w → Q w → IfGoes (turn p budget i w) Ran
      turn_keeps budget w h f q = goes_both (turn p budget i w) (Moving p) Q (turn_moving p good i budget w h f) (turn_by_keeps budget (running i w.threads) w h f q)

    -- Passes

    abbrev Rests : Passed → Type 0
    Rests x = Paused p x.world × Q x.world

    visit_keeps : (first : Bool) (budget j : ℕ) (w : World Task) → Paused p w → Q w → Visited first w.threads.list j → IfGoes (visit p budget j w) Rests
    visit_keeps first budget j w h q v =
        let k = woken_moving p good first j w h v in
        goes_then (turn p budget j (woken j w)) _ Ran Rests (turn_keeps j budget (woken j w) k.moving k.free (keeps.threads w (woken j w).threads q))
        (λ u g. (undetached p good u g.0, keeps.threads u (without_detached u).threads g.1))

    pass_on_keeps : (first : Bool) (budget : ℕ) (o : Option ℕ) (w : World Task) (active : Bool) (rest : ℕ → World Task → Bool → Outcome Passed) → ((j : ℕ) → o ≡ Some j → Visited first w.threads.list j)
        → ((i : ℕ) (v : World Task) (a : Bool) → Paused p v → Q v → IfGoes (rest i v a) Rests) → Paused p w → Q w → IfGoes (pass_on p budget o w active rest) Rests
    pass_on_keeps first budget None w active rest f more h q = (h, q)
    pass_on_keeps first budget (Some j) w active rest f more h q = goes_then (visit p budget j w) _ Rests Rests (visit_keeps first budget j w h q (f j refl)) (λ x g. more (suc j) x.world (active || x.active) g.0 g.1)

    pass_keeps : (first : Bool) (budget n i : ℕ) (w : World Task) (active : Bool) → Paused p w → Q w → IfGoes (pass p first budget n i w active) Rests
    unfolding pass
    pass_keeps first budget zero i w active h q = (h, q)
    pass_keeps first budget (suc n) i w active h q =
        pass_on_keeps first budget (next_place first i (drop i w.threads.list)) w active (pass p first budget n) (λ j e. place_visited first i w.threads.list j e) (λ k v a g c. pass_keeps first budget n k v a g c) h q

    abbrev Passes : World Task → Type 0
    Passes w = IsLegalWorld p w × Q w

    whole_pass_keeps : (first : Bool) (budget : ℕ) (w : World Task) → Passes w → IfGoes (pass p first budget most_slices 0 w false) (λ x. Passes (without_done x.world))
    whole_pass_keeps first budget w h = goes_weaker (pass p first budget most_slices 0 w false) Rests (λ x. Passes (without_done x.world))
        (λ x g. (legal_without_done p good x.world g.0, keeps.threads x.world (without_done x.world).threads g.1))
        (pass_keeps first budget most_slices 0 w false (paused_legal p good w h.0) h.1)

    on_keeps : (b : Bool) (w : World Task) (rest : World Task → Outcome (World Task)) → IfGoes (rest w) Q → Q w → IfGoes (go_on b rest (λ v. Goes v) w) Q
    on_keeps true w rest f h = f
    on_keeps false w rest f h = h

    passes_keep : (budget n : ℕ) (first active : Bool) (w : World Task) → Passes w → IfGoes (passes p budget n first active w) Q
    unfolding passes
    passes_keep budget zero first active w h = h.1
    passes_keep budget (suc n) first active w h =
        on_keeps (passes_go_on active w) w (λ v. then_do (pass p first budget most_slices 0 v false) (λ x. passes p budget n false x.active (without_done x.world)))
        (goes_then (pass p first budget most_slices 0 w false) _ (λ x. Passes (without_done x.world)) Q (whole_pass_keeps first budget w h) (λ x g. passes_keep budget n false x.active (without_done x.world) g)) h.1

    -- The frame

    pub frame_keeps : (b : Budget) (w : World Task) → w.devices.clock ≤ b.clock → IsLegalWorld p w → Q (at_clock b.clock w) → IfGoes (frame p b w) Q
    frame_keeps b w le l h =
        let w1 = at_clock b.clock w in
        goes_then (timers_ended (length w.devices.timers) w1) _ Passes Q
        (goes_both (timers_ended (length w.devices.timers) w1) (IsLegalWorld p) Q
        (timers_legal p (length w.devices.timers) w1 (legal_again p w w.frame w.words w.redraw w.variables w1.devices le refl refl (λ k. k) (λ k. k) l))
        (timers_keep (length w.devices.timers) w1 h))
        (λ x g. goes_then (edges_passed p (edges p x) x) _ Passes Q (edges_keep (edges p x) x (edges_fit p x) (edges_tested x) g.0 g.1)
        (λ y k. goes_then (passes p b.warp b.passes true true (record y { redraw = false })) numbered Q Q
        (passes_keep b.warp b.passes true true (record y { redraw = false }) (legal_again p y y.frame y.words false y.variables y.devices (omega arith) refl refl (λ q. q) (λ q. q) k.0, keeps.redraw y false k.1))
        (λ z m. number_known counter.Frame z.frame (Goes (record z { frame = z.frame + 1 })) Q (λ ne. keeps.counted z ne m))))
