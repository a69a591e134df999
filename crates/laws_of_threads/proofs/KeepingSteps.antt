-- One execution keeps a fact of worlds.
use Rattle.std.proofs.Common.{◌≡◌, ℕ, Bool, true, false, List, [], ◌∷◌, Option, Some, None, inl, inr, refl, sym, subst}
use Rattle.std.specs.Prelude.{◌<◌, bytes_eq, find, cond}
use Rattle.opcode_table.specs.declared.kinds.Kind.{Kind}
use Rattle.opcode_table.specs.declared.kinds.Kind.TheVariants.{Calls}
use Rattle.opcode_table.specs.Kinds.{kind}
use Rattle.script_words.specs.declared.stops.CounterKind.TheVariants as counter
use Rattle.scratch_values.specs.Named.{Arguments}
use Rattle.machine_spec.specs.declared.threads.Context.{Context}
use Rattle.machine_spec.specs.declared.threads.Context.TheVariants.{Fresh, Called}
use Rattle.machine_spec.specs.declared.threads.Control.{Control}
use Rattle.machine_spec.specs.declared.threads.Control.TheVariants.{StopOthers, StopAll, DeleteClone, Start, Clone}
use Rattle.machine_spec.specs.declared.threads.Filter.TheVariants.{CloneStart}
use Rattle.machine_spec.specs.Outcome.{Goes, IfGoes, then_do}
use Rattle.machine_spec.specs.Script.{Script, End, Then, Statement, Does, Branches, NoBranch, AndBranch, place_of, command_of, op_of, branches_of, inputs_of}
use Rattle.machine_spec.specs.Program.{Program, Procedure, scripts_at}
use Rattle.machine_spec.specs.Threads.{Params}
use Rattle.machine_spec.specs.Stopping.{scene_of, with_scene, questions_dropped, without_timers, is_clone, disposed, clone_added, placed_behind, has_no_room}
use Rattle.machine_spec.specs.Pending.{Item, Do, Held, Returned, Branch, Again, Back, Position, gone, settle, params_in}
use Rattle.machine_spec.specs.Called.{called, called_by, branch_scripts, scripts_in, scripts_over}
use Rattle.machine_spec.specs.Legal.{EndOf, EndOfOne, Stands as StandsAt, Markers, Legal, script_of, scripts_on, waits_for_promise}
use Rattle.machine_spec.specs.Places.{place, on_running, running}
use Rattle.machine_spec.specs.Starting.{starts, start_all, finished_of}
use Rattle.machine_spec.specs.Tasks.{Task, tasks, at_position, begin}
use Rattle.machine_spec.specs.World.{World}
use Rattle.machine_spec.specs.Evaluate.{values, evaluated}
use Rattle.machine_spec.specs.Step.{Moment, row, position, opens_level, moved, moved_with_room, after_start, others_stopped, clone_deleted, cloned, cloned_unless, deleted_if, act, view_of, execute, execute_first, step_by, step}
use Rattle.laws_of_threads.specs.Lists.{Each}
use Rattle.laws_of_threads.specs.Instances.{Hosts}
use Rattle.laws_of_threads.specs.Positions.{FirstKeptWell}
use Rattle.laws_of_threads.specs.Promises.{askers, speakers}
use Rattle.laws_of_threads.specs.Scripts.{Within, IsProgram}
use Rattle.laws_of_threads.specs.Statements.{EachIn, EachUnder, EachInOne, Everywhere}
use Rattle.laws_of_threads.specs.Threads.{IsThread, Stays}
use Rattle.laws_of_threads.proofs.RowFits.{goes_then}
use Rattle.laws_of_threads.proofs.Depths.{deep}
use Rattle.laws_of_threads.proofs.Programs.{first_place, held_head}
use Rattle.laws_of_threads.proofs.Applies.{Applies}
use Rattle.laws_of_threads.proofs.Moving.{IsAtWork, Moving}
use Rattle.laws_of_threads.proofs.Starts.{room_goes}
use Rattle.laws_of_threads.proofs.Acted.{Acts}
use Rattle.laws_of_threads.proofs.Executed.{Ready, within, acts, with_words, row_applies}
use Rattle.laws_of_threads.proofs.Slices.{MayRun, brings_kept, fits_calls, one_of_all, ready}
use Rattle.laws_of_threads.proofs.Keeping.{Stands, KeepsAtClock}
use Rattle.laws_of_threads.proofs.KeepingStarts.{goes_known, number_known, OfCrowd, all_keep, begin_keeps}

-- A fact of each statement of a script

end_each : (P : Statement → Type 0) (t whole : Script) → EndOf t whole → EachIn P whole → EachIn P t
end_each P t End e h = subst (EachIn P) (sym e) tt
end_each P t (Then s rest) (inl e) h = subst (EachIn P) (sym e) h
end_each P t (Then s rest) (inr e) h = end_each P t rest e h.2

one_each : (P : Statement → Type 0) (t : Script) (all : List Script) → EndOfOne t all → Each (EachIn P) all → EachIn P t
one_each P t [] e h = absurd e
one_each P t (x ∷ xs) (inl e) h = end_each P t x e h.0
one_each P t (x ∷ xs) (inr e) h = one_each P t xs e h.1

branches_each : (P : Statement → Type 0) (bs : Branches) → EachInOne P bs → Each (EachIn P) (branch_scripts bs)
branches_each P NoBranch h = tt
branches_each P (AndBranch name b more) h = (h.0, branches_each P more h.1)

statement_each : (P : Statement → Type 0) (s : Statement) → EachUnder P s → Each (EachIn P) (branch_scripts (branches_of s))
statement_each P (Does place command inputs branches) h = branches_each P branches h

-- the body of what is called
abbrev CallHas : (Statement → Type 0) → Option Procedure → Type 0
CallHas P None = Unit {0}
CallHas P (Some q) = EachIn P q.body

found_by : (P : Statement → Type 0) (test : Procedure → Bool) (c : Bool) (q : Procedure) (qs : List Procedure) → EachIn P q.body → CallHas P (find test qs) → CallHas P (cond c (Some q) (find test qs))
found_by P test true q qs h g = h
found_by P test false q qs h g = g

found : (P : Statement → Type 0) (test : Procedure → Bool) (qs : List Procedure) → Each (λ q. EachIn P q.body) qs → CallHas P (find test qs)
found P test [] h = tt
found P test (q ∷ qs) h = found_by P test (test q) q qs h.0 (found P test qs h.1)

module _ (p : Program) (P : ℕ → Statement → Type 0) (good : IsProgram p) (everywhere : Everywhere P p) where
  called_by_has : (k : ℕ) (x : Kind) (code : List ℕ) → CallHas (P k) (called_by x p k code)
  called_by_has k Calls code = found (P k) (λ q. bytes_eq q.code code) (scripts_at k p).procedures (everywhere.procedures k)
  called_by_has k x code = tt

  called_has : (k : ℕ) (s : Statement) → (place_of s).target ≡ k → CallHas (P k) (called p s)
  called_has k s e = subst (λ j. CallHas (P k) (called_by (kind (op_of s)) p j (command_of s).code)) (sym e) (called_by_has k (kind (op_of s)) (command_of s).code)

  over_by : (k : ℕ) (o : Option Procedure) (bs : List Script) → CallHas (P k) o → Each (EachIn (P k)) bs → Each (EachIn (P k)) (scripts_in o bs)
  over_by k None bs f h = h
  over_by k (Some q) bs f h = (f, tt)

  over_each : (k : ℕ) (s : Statement) → (place_of s).target ≡ k → EachUnder (P k) s → Each (EachIn (P k)) (scripts_over p s)
  over_each k s e h = over_by k (called p s) (branch_scripts (branches_of s)) (called_has k s e) (statement_each (P k) s h)

  -- over a marker stand scripts of the target
  on_each : (hat : Script) (k : ℕ) (r : List Item) → Within k hat → EachIn (P k) hat → Markers p hat r → Each (EachIn (P k)) (scripts_on p hat r)
  on_each hat k [] i h m = (h, tt)
  on_each hat k (Do s ∷ r) i h m = on_each hat k r i h m
  on_each hat k (Held s c ∷ r) i h m = absurd m
  on_each hat k (Returned s ps ∷ r) i h m = absurd m
  on_each hat k (Branch s w ∷ r) i h m = over_each k s (first_place p good hat k s r w i m.1 m.2) (one_each (P k) (Then s (script_of r)) (scripts_on p hat r) m.1.ends (on_each hat k r i h m.2)).1
  on_each hat k (Again s c w ∷ r) i h m = over_each k s (first_place p good hat k s r w i m.1 m.2) (one_each (P k) (Then s (script_of r)) (scripts_on p hat r) m.1.ends (on_each hat k r i h m.2)).1
  on_each hat k (Back s ps w ∷ r) i h m = over_each k s (first_place p good hat k s r w i m.1 m.2) (one_each (P k) (Then s (script_of r)) (scripts_on p hat r) m.1.ends (on_each hat k r i h m.2)).1

  -- the first statement is one of the target of the thread
  pub first_holds : (hat : Script) (k : ℕ) (s : Statement) (r : List Item) (w : Bool) → Within k hat → EachIn (P k) hat → StandsAt p hat (Then s (script_of r)) r w → Markers p hat r → P k s
  first_holds hat k s r w i h st m = (one_each (P k) (Then s (script_of r)) (scripts_on p hat r) st.ends (on_each hat k r i h m)).0

-- Controls

module _ (p : Program) (P : ℕ → Statement → Type 0) (Q : World Task → Type 0) (keeps : KeepsAtClock p P Q) where
  abbrev pub At : Moment (World Task) → Type 0
  At m = Q m.world

  pub moved_keeps : (i : ℕ) (x : Position) (w : World Task) → Q w → At (moved i x w)
  moved_keeps i x w h = keeps.threads w (on_running (at_position x) i w.threads) h

  module _ (i : ℕ) (t : Task) (s : Statement) (r : List Item) where
    with_room_keeps : (b : Bool) (x : Position) (v : World Task) → Q v → IfGoes (moved_with_room b i x v) At
    with_room_keeps true x v h = room_goes _ (moved i x v) At (moved_keeps i x v h)
    with_room_keeps false x v h = moved_keeps i x v h

    others_keep : (v : World Task) → Q v → IfGoes (others_stopped i t.of v) Q
    others_keep v h = goes_then (questions_dropped t.of (scene_of v)) _ (λ x. Q (with_scene v x)) Q (keeps.drops v t.of h)
        (λ x g. keeps.threads (with_scene v x) (finished_of tasks (Some (place i v.threads)) t.of v.threads) g)

    deleted_keeps : (c : Control) (k : Context) (v : World Task) → is_clone p.records t.of ≡ true → Acts p i t s r c k v → Q v → IfGoes (clone_deleted t.of v) Q
    deleted_keeps c k v e a h =
        let d : World Task = disposed t.of v in
        goes_then (questions_dropped t.of (scene_of d)) _ (λ x. Q (with_scene d x)) Q (keeps.drops d t.of (keeps.disposes v t.of a.other.sound.inhabited e h))
        (λ x g. keeps.threads (with_scene d (without_timers t.of x)) (finished_of tasks None t.of v.threads) (keeps.untimed (with_scene d x) t.of g))

    delete_by : (b : Bool) (c : Control) (k : Context) (x : Position) (v : World Task) → is_clone p.records t.of ≡ b → Acts p i t s r c k v → Q v → IfGoes (deleted_if b i t x v) At
    delete_by true c k x v e a h = goes_then (clone_deleted t.of v) _ Q At (deleted_keeps c k v e a h) (λ u g. moved_keeps i gone u g)
    delete_by false c k x v e a h = moved_keeps i x v h

    cloned_keeps : (c : Control) (k : Context) (v : World Task) (original target : ℕ) → Hosts original target v.targets → has_no_room p.records original v ≡ false → Acts p i t s r c k v → Q v → IfGoes (cloned p i original v) Q
    cloned_keeps c k v original target live room a h = number_known counter.Instance v.next_instance _ Q
        (λ ne.
        let u : World Task = clone_added original v in
        let z : World Task = record u { targets = placed_behind v.next_instance original u.targets } in
        goes_then (begin p (Some i) (CloneStart v.next_instance) u) _ (λ b. Q (record b.world { targets = placed_behind v.next_instance original b.world.targets })) Q
        (goes_then (start_all tasks (Some i) (starts p (CloneStart v.next_instance) u.targets) (record { threads = u.threads; next = u.next_thread; serials = [] })) _ (OfCrowd p P Q keeps z) (λ b. Q (record b.world { targets = placed_behind v.next_instance original b.world.targets }))
        (all_keep p P Q keeps z (Some i) (starts p (CloneStart v.next_instance) u.targets) (record { threads = u.threads; next = u.next_thread; serials = [] }) (keeps.clones v original target a.other.sound.inhabited live room ne h))
        (λ d g. g))
        (λ b g. g))

    unless_keeps : (b : Bool) (c : Control) (k : Context) (v : World Task) (original target : ℕ) → Hosts original target v.targets → has_no_room p.records original v ≡ b → Acts p i t s r c k v → Q v → IfGoes (cloned_unless b p i original v) Q
    unless_keeps true c k v original target live e a h = h
    unless_keeps false c k v original target live e a h = cloned_keeps c k v original target live e a h

    clone_keeps : (k : Context) (v : World Task) (original target : ℕ) → Hosts original target v.targets → Acts p i t s r (Clone original) k v → Q v
        → IfGoes (then_do (cloned_unless (has_no_room p.records original v) p i original v) (λ u. Goes (moved i (settle r t.warp) u))) At
    clone_keeps k v original target live a h = goes_then (cloned_unless (has_no_room p.records original v) p i original v) _ Q At
        (unless_keeps (has_no_room p.records original v) (Clone original) k v original target live refl a h) (λ u g. moved_keeps i (settle r t.warp) u g)

    pub act_keeps : (late : Bool) (control : Control) (c : Context) (v : World Task) → Acts p i t s r control c v → Q v → IfGoes (act p i late t s r control c v) At
    act_keeps late StopOthers c v a h = goes_then (others_stopped i t.of v) _ Q At (others_keep v h) (λ u g. moved_keeps i (settle r t.warp) u g)
    act_keeps late StopAll c v a h = keeps.stops v a.other.sound.inhabited h
    act_keeps late DeleteClone c v a h = delete_by (is_clone p.records t.of) DeleteClone c (settle r t.warp) v refl a h
    act_keeps late (Start hats wait) c v a h = goes_then (begin p (Some i) hats v) _ (λ b. Q b.world) At (begin_keeps p P Q keeps (Some i) hats v h) (λ b g. moved_keeps i (after_start wait b.serials s t.warp r) b.world g)
    act_keeps late (Clone original) c v a h = elim a.clone [
      | inl e ↦ clone_keeps c v original a.owner.target (subst (λ n. Hosts n a.owner.target v.targets) (sym e) a.owner.hosted) a h
      | inr below ↦ clone_keeps c v original original (a.other.sound.inhabited.originals original below) a h
    ]
    act_keeps late control c v a h = with_room_keeps (opens_level control) (position p late t.warp s r control c) v h

  -- One execution

  module _ (good : IsProgram p) (everywhere : Everywhere P p) (i : ℕ) where
    module _ (t : Task) (s : Statement) (r : List Item) where
      stands : (c : Context) (w : World Task) → Ready p good i t s r c w → Stands p P Q w t s
      stands c w h = record {
        target = h.thread.target;
        hosted = h.thread.hosted;
        holds = first_holds p P good everywhere h.thread.head.script h.thread.target s r t.warp (within p good i t s r c w h)
            (held_head (λ x. EachIn (P h.thread.target) x.script) h.thread.head (scripts_at h.thread.target p).heads h.thread.heads (everywhere.heads h.thread.target)) h.legal.0 h.legal.1;
        inhabited = h.moving.sound.inhabited;
      }

      row_keeps : (late : Bool) (c : Context) (w : World Task) (a : Arguments) → Ready p good i t s r c w → a.variables ≡ (command_of s).refs → Q w → IfGoes (then_do (row p (command_of s) a t.of t.serial c w) (λ x. act p i late t s r x.control x.context x.world)) At
      row_keeps late c w a h refs q = goes_known (row p (command_of s) a t.of t.serial c w) _ (Applies p t.of t.serial (command_of s) w) At
          (row_applies p good i t s r c w h a)
          (λ x e g. act_keeps i t s r late x.control x.context x.world (acts p good i t s r c w h x g) (keeps.rows w t s c a x (stands c w h) refs q e g))

      pub execute_keeps : (late : Bool) (c : Context) (params : Params) (w : World Task) → Ready p good i t s r c w → Q w → IfGoes (execute p i late t s c params r w) At
      execute_keeps late c params w h q = goes_then (evaluated (view_of p t params w) s w.words) _ (λ d. (d.value.variables ≡ (command_of s).refs) × Q (record w { words = d.words })) At
          (goes_then (values (view_of p t params w) (inputs_of s) w.words) _ (λ d. Q (record w { words = d.words })) (λ d. (d.value.variables ≡ (command_of s).refs) × Q (record w { words = d.words })) (keeps.evaluates w (view_of p t params w) (inputs_of s) q) (λ d g. (refl, g)))
          (λ d g. row_keeps late c (record w { words = d.words }) d.value (with_words p good i t s r c w d.words h) g.0 g.1)

    module _ (late : Bool) (t : Task) (w : World Task) (moving : Moving p w) (runs : running i w.threads ≡ Some t) (below : t.serial < w.next_thread) (free : waits_for_promise t.items ≡ false) (q : Q w) where
      first_keeps : (h : IsThread p w.targets w.devices.clock w.next_thread (askers w.devices) (speakers w.devices) t) (items : List Item) → t.items ≡ items → Legal p h.head.script w.devices.clock items t.warp → FirstKeptWell w.next_thread items → IfGoes (execute_first p i late t items w) At
      first_keeps h [] e l k = q
      first_keeps h (Do s ∷ r) e l k = execute_keeps t s r late Fresh (params_in r) w (ready p good i late t w moving runs below free h s r Fresh l tt tt (deep t (Do s) r h.status e)) q
      first_keeps h (Held s c ∷ r) e l k = execute_keeps t s r late c (params_in r) w (ready p good i late t w moving runs below free h s r c (l.1, l.2) (brings_kept w.devices.clock (kind (op_of s)) c l.0) k (deep t (Held s c) r h.status e)) q
      first_keeps h (Returned s ps ∷ r) e l k = execute_keeps t s r late Called ps w (ready p good i late t w moving runs below free h s r Called (l.1, l.2) (fits_calls p (kind (op_of s)) (place_of s).target (command_of s).code ps l.0) tt (deep t (Returned s ps) r h.status e)) q
      first_keeps h (Branch s v ∷ r) e l k = absurd l
      first_keeps h (Again s c v ∷ r) e l k = absurd l
      first_keeps h (Back s ps v ∷ r) e l k = absurd l

      any_keeps : Stays p w.targets w.devices.clock w.next_thread (askers w.devices) (speakers w.devices) t → IfGoes (execute_first p i late t t.items w) At
      any_keeps (inl h) = subst (λ l. IfGoes (execute_first p i late t l w) At) (sym h.1) q
      any_keeps (inr h) = first_keeps h t.items refl h.legal h.kept

    step_by_keeps : (late : Bool) (o : Option Task) (w : World Task) → running i w.threads ≡ o → Moving p w → MayRun i w → Q w → IfGoes (step_by p i late o w) At
    step_by_keeps late None w e h f q = q
    step_by_keeps late (Some t) w e h f q = let one = one_of_all (IsAtWork p w) w.next_thread i w.threads t e h.crew in any_keeps late t w h e one.given (f t e) q one.its

    pub step_keeps : (late : Bool) (w : World Task) → Moving p w → MayRun i w → Q w → IfGoes (step p i late w) At
    step_keeps late w h f q = step_by_keeps late (running i w.threads) w refl h f q
