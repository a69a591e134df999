-- Each change of a world keeps its variables, lists and monitors legal.
use Rattle.std.proofs.Common.{◌≡◌, ℕ, Bool, not, filter, map, refl, sym, subst}
use Rattle.opcode_table.specs.declared.groups.Group.{Group}
use Rattle.opcode_table.specs.declared.groups.Group.TheVariants.{Motion, Looks, Data, Control}
use Rattle.opcode_table.specs.Kinds.{group}
use Rattle.scratch_values.specs.Named.{Arguments}
use Rattle.machine_spec.specs.declared.instance.Instance.{Instance}
use Rattle.machine_spec.specs.declared.threads.Context.{Context}
use Rattle.machine_spec.specs.ControlRows.{control_row}
use Rattle.machine_spec.specs.DataRows.{data_row}
use Rattle.machine_spec.specs.Evaluate.{values}
use Rattle.machine_spec.specs.Frame.{with_edge}
use Rattle.machine_spec.specs.Line.{without_edges}
use Rattle.machine_spec.specs.Looks.{looks_row}
use Rattle.machine_spec.specs.Motion.{motion_row}
use Rattle.machine_spec.specs.Outcome.{Outcome, Goes, Full, TooLong, Spent, IfGoes}
use Rattle.machine_spec.specs.Parts.{Scene}
use Rattle.machine_spec.specs.Program.{Program, hat_block}
use Rattle.machine_spec.specs.Script.{Statement, command_of, op_of}
use Rattle.machine_spec.specs.Step.{row, row_by, Applied, applied, with_motion, with_looks, with_data}
use Rattle.machine_spec.specs.Stopping.{scene_of, with_scene, first_taken, bubble_emptied, questions_dropped, is_clone, cleared, all_stopped}
use Rattle.machine_spec.specs.Tasks.{Task, listed}
use Rattle.machine_spec.specs.View.{variable_at}
use Rattle.machine_spec.specs.World.{World}
use Rattle.laws_of_threads.specs.Playable.{IsPlayable, IsNamed, ShowsNamed, ref_named}
use Rattle.laws_of_threads.proofs.Applies.{Applies}
use Rattle.laws_of_threads.proofs.Calm.{Calm}
use Rattle.laws_of_threads.proofs.Ending.{Fewer, emptied_calm, taken_calm, dropped_fewer}
use Rattle.laws_of_threads.proofs.Faces.{Faces, changed_faces}
use Rattle.laws_of_threads.proofs.Keeping.{Stands, Keeps}
use Rattle.laws_of_threads.proofs.RowFits.{goes_then, goes_any, goes_is, goes_weaker}
use Rattle.laws_of_variables.specs.Variables.{IsLegalStores, IsLegalVariables}
use Rattle.laws_of_variables.proofs.Carried.{mapped_faces, carried, narrowed, without_one, cloned}
use Rattle.laws_of_variables.proofs.Data.{row_legal}

goes_always : {A : Type 0} (o : Outcome A) (P : A → Type 0) → ((x : A) → P x) → IfGoes o P
goes_always (Goes x) P f = f x
goes_always Full P f = tt
goes_always (TooLong n) P f = tt
goes_always (Spent which) P f = tt

module _ (p : Program) (playable : IsPlayable p) where
  abbrev Q : World Task → Type 0
  Q w = IsLegalVariables p w

  scene_kept : (w : World Task) (s : Scene) → Faces w.targets s.targets → Q w → Q (with_scene w s)
  scene_kept w s f h = carried p w.targets w.variables h s.targets f

  stopped : (w : World Task) → Q w → Q (all_stopped p.records w)
  stopped w h =
      let keep : ℕ → Bool = λ n. not (is_clone p.records n) in
      carried p (filter (λ i. keep i.number) w.targets) (record w.variables { stores = filter (λ s. keep s.of) w.variables.stores }) (narrowed p w.targets w.variables h keep)
      (map cleared (filter (λ i. keep i.number) w.targets)) (mapped_faces cleared (λ i. record { number = refl; of = refl }) (filter (λ i. keep i.number) w.targets))

  -- Rows

  module _ (w : World Task) (t : Task) (s : Statement) (c : Context) (a : Arguments) (stands : Stands p (IsNamed p.records) Q w t s) (refs : a.variables ≡ (command_of s).refs) (h : Q w) where
    abbrev VariablesLegal : Applied → Type 0
    VariablesLegal x = IsLegalStores p w.targets x.world.variables

    names : ShowsNamed p.records stands.target (op_of s) (λ name. variable_at name a)
    names = subst (λ r. ShowsNamed p.records stands.target (op_of s) (ref_named r)) (sym refs) stands.holds

    row_by_legal : (g : Group) → IfGoes (row_by g p (command_of s) a t.of t.serial c w) VariablesLegal
    row_by_legal Motion = goes_any (motion_row p.records w.devices (op_of s) a t.of c (record { targets = w.targets; words = w.words })) (applied (with_motion w) w) VariablesLegal (λ r. h)
    row_by_legal Looks = goes_any (looks_row p.records (listed w) (op_of s) a t.of t.serial c (record { scene = scene_of w; words = w.words })) (applied (with_looks w) w) VariablesLegal (λ r. h)
    row_by_legal Data = goes_then (data_row p.records w.targets (op_of s) a t.of (record { variables = w.variables; words = w.words })) (applied (with_data w) w) (λ r. IsLegalStores p w.targets r.parts.variables) VariablesLegal
        (row_legal p w.targets t.of stands.target w.next_instance playable.stage stands.hosted stands.inhabited (op_of s) a (record { variables = w.variables; words = w.words }) names h) (λ r g. g)
    row_by_legal Control = goes_any (control_row p (listed w) (op_of s) (command_of s).code a t.of t.serial c (scene_of w)) (applied (with_scene w) w) VariablesLegal (λ r. h)

    row_kept : (x : Applied) → row p (command_of s) a t.of t.serial c w ≡ Goes x → Applies p t.of t.serial (command_of s) w x → Q x.world
    row_kept x e fits = carried p w.targets x.world.variables (goes_is (row p (command_of s) a t.of t.serial c w) VariablesLegal x e (row_by_legal (group (op_of s)))) x.world.targets fits.fits.faces

  pub keeps : Keeps p (IsNamed p.records) Q
  keeps = record {
    threads = λ w ts h. h;
    redraw = λ w b h. h;
    given = λ w ne h. h;
    evaluates = λ w v inputs h. goes_always (values v inputs w.words) (λ d. Q (record w { words = d.words })) (λ d. h);
    rows = λ w t s c a x stands refs h e fits. row_kept w t s c a stands refs h x e fits;
    drops = λ w n h. goes_weaker (questions_dropped n (scene_of w)) (Fewer (scene_of w)) (λ s. Q (with_scene w s)) (λ s f. scene_kept w s f.faces h) (dropped_fewer n (scene_of w));
    stops = λ w inhabited h. stopped w h;
    disposes = λ w n inhabited clone h. without_one p w.targets w.variables h n inhabited.differ;
    untimed = λ w n h. h;
    clones = λ w original target inhabited hosted room ne h. cloned p w.targets w.variables w.next_instance original target h inhabited hosted;
    clock = λ w k later last h. h;
    timer_gone = λ w k h. h;
    emptied = λ w n h. goes_weaker (bubble_emptied n (scene_of w)) (Calm (scene_of w)) (λ s. Q (with_scene w s)) (λ s k. scene_kept w s k.faces h) (emptied_calm n (scene_of w));
    noted = λ w x v edge inhabited h.
        let f : Instance → Instance = λ i. record i { edges = with_edge (hat_block x.head) v i.edges } in
        carried p w.targets w.variables h _ (changed_faces f (λ i. record { number = refl; of = refl }) x.of w.targets);
    counted = λ w ne h. h;
    renews = λ w h. carried p w.targets w.variables h (map without_edges w.targets) (mapped_faces without_edges (λ i. record { number = refl; of = refl }) w.targets);
    key_held = λ w k named h. h;
    key_free = λ w k h. h;
    mouse = λ w x y across up h. h;
    button = λ w down h. h;
    turbo = λ w on h. h;
    answer = λ w text short h. h;
    answers = λ w q qs e h.
        let s : Scene = record (scene_of w) { devices = record w.devices { questions = qs } } in
        goes_weaker (first_taken q.bubble q.of s) (Calm s) (λ z. Q (with_scene w z)) (λ z k. scene_kept w z k.faces h) (taken_calm q.bubble q.of s);
  }
