-- Every single change of a world keeps its instances legal.
use Rattle.std.proofs.Common.{◌≡◌, ℕ, ◌+◌, ◌<◌, ◌^◌, Bool, false, length, refl, subst}
use Rattle.scratch_values.specs.Named.{Arguments}
use Rattle.machine_spec.specs.declared.instance.Instance.{Instance}
use Rattle.machine_spec.specs.declared.threads.Context.{Context}
use Rattle.machine_spec.specs.Frame.{with_edge, edge_noted}
use Rattle.machine_spec.specs.Outcome.{IfGoes, Goes}
use Rattle.machine_spec.specs.Parts.{Scene}
use Rattle.machine_spec.specs.Program.{Program, hat_block, stage_number}
use Rattle.machine_spec.specs.Script.{Statement, command_of}
use Rattle.machine_spec.specs.Starting.{Pair}
use Rattle.machine_spec.specs.Step.{row, Applied}
use Rattle.machine_spec.specs.Stopping.{scene_of, with_scene, first_taken, bubble_emptied, questions_dropped, clone_added, placed_behind, has_no_room, most_clones}
use Rattle.machine_spec.specs.Stores.{instance_at, is_on_stage}
use Rattle.machine_spec.specs.Tasks.{Task}
use Rattle.machine_spec.specs.Words.{Words, draw}
use Rattle.machine_spec.specs.World.{World}
use Rattle.laws_of_threads.specs.Instances.{Hosts, Inhabited}
use Rattle.laws_of_threads.specs.Playable.{IsPlayable}
use Rattle.laws_of_threads.proofs.Faces.{found, hosts_one}
use Rattle.laws_of_threads.proofs.Keeping.{Stands, IsEdge, Keeps}
use Rattle.laws_of_threads.proofs.RowFits.{goes_is, goes_weaker}
use Rattle.laws_of_words.specs.Words.{IsOfSeed}
use Rattle.laws_of_words.proofs.Sourced.{draw_sourced, values_sourced, row_sourced}
use Rattle.laws_of_instances.specs.Instances.{IsLegalCast}
use Rattle.laws_of_instances.proofs.Bubbles.{IsSceneCast, emptied_cast, taken_cast, dropped_cast}
use Rattle.laws_of_instances.proofs.Casts.{IsCast, cast_of, legal_of, cast_changed}
use Rattle.laws_of_instances.proofs.Clones.{disposed_cast, stopped_cast, renewed_cast, cloned_cast, has_room, noted_edge}
use Rattle.laws_of_instances.proofs.RowsKeep.{row_cast}

-- any statement will do
abbrev pub AnyStatement : ℕ → Statement → Type 0
AnyStatement k s = Unit {0}

module _ (p : Program) (seed : ℕ) (play : IsPlayable p) where
  abbrev Legal : World Task → Type 0
  Legal = IsLegalCast p seed

  draws_small : (w : Words) → IsOfSeed seed w → IfGoes (draw w) (λ d. d.value < 2 ^ 32)
  draws_small w h = goes_weaker (draw w) (λ d. IsOfSeed seed d.words × (d.value < 2 ^ 32)) (λ d. d.value < 2 ^ 32) (λ d g. g.1) (draw_sourced seed w h)

  -- a scene that keeps its instances legal
  scene_legal : (w : World Task) (s : Scene) → IsSceneCast p s → Legal w → Legal (with_scene w s)
  scene_legal w s g h = legal_of p seed (with_scene w s) g h.words

  row_legal : (w : World Task) (t : Task) (s : Statement) (c : Context) (a : Arguments) (x : Applied) → Stands p AnyStatement Legal w t s → Legal w → row p (command_of s) a t.of t.serial c w ≡ Goes x → Legal x.world
  row_legal w t s c a x stands h e =
      let here = found t.of stands.target w.targets stands.hosted in
      let stage = found (stage_number p.records) (stage_number p.records) w.targets (stands.inhabited.originals (stage_number p.records) play.stage.there) in
      legal_of p seed x.world
      (goes_is (row p (command_of s) a t.of t.serial c w) (λ y. IsCast p y.world.devices.usage y.world.targets) x e
      (row_cast p play (IsOfSeed seed) draws_small t.of t.serial here.x stage.x w here.is_it stage.is_it h.words (cast_of p seed w h) (command_of s) a c))
      (goes_is (row p (command_of s) a t.of t.serial c w) (λ y. IsOfSeed seed y.world.words) x e (row_sourced seed p (command_of s) a t.of t.serial c w h.words))

  clone_legal : (w : World Task) (original target : ℕ) → Inhabited p.records w.next_instance w.targets → Hosts original target w.targets → has_no_room p.records original w ≡ false → Legal w
      → Legal (record (clone_added original w) { targets = placed_behind w.next_instance original (clone_added original w).targets })
  clone_legal w original target inhabited hosted room h =
      let r = has_room (length w.targets) (length p.records.targets + most_clones) (is_on_stage (instance_at original w.targets) p.records) room in
      legal_of p seed (record (clone_added original w) { targets = placed_behind w.next_instance original (clone_added original w).targets })
      (cloned_cast p w.devices.usage w.next_instance original target w.targets inhabited hosted r.1 r.0 (cast_of p seed w h)) h.words

  noted_legal : (w : World Task) (x : Pair) (v : Bool) → IsEdge p AnyStatement Legal w x → Inhabited p.records w.next_instance w.targets → Legal w → Legal (edge_noted x v w)
  noted_legal w x v edge inhabited h =
      let r = found x.of edge.target w.targets edge.hosted in
      legal_of p seed (edge_noted x v w)
      (cast_changed p w.devices.usage x.of (λ i. record i { edges = with_edge (hat_block x.head) v i.edges }) w.targets (λ i. record { number = refl; of = refl })
      (λ i e g. let s : r.x ≡ i = cc (r.is_it, e) in noted_edge p w.devices.usage x v edge.target i
      (hosts_one x.of i.of edge.target w.targets inhabited.differ (subst (λ (y : Instance). Hosts x.of y.of w.targets) s r.hosts) edge.hosted)
      (record { head = x.head; held = edge.head; block_is = refl; edge = edge.edge }) g)
      (cast_of p seed w h)) h.words

  pub keeps : Keeps p AnyStatement Legal
  keeps = record {
    threads = λ w ts h. legal_of p seed (record w { threads = ts }) (cast_of p seed w h) h.words;
    redraw = λ w b h. legal_of p seed (record w { redraw = b }) (cast_of p seed w h) h.words;
    given = λ w n h. legal_of p seed (record w { next_thread = w.next_thread + 1 }) (cast_of p seed w h) h.words;
    evaluates = λ w v inputs h. goes_weaker _ (λ d. IsOfSeed seed d.words) (λ d. Legal (record w { words = d.words })) (λ d g. legal_of p seed (record w { words = d.words }) (cast_of p seed w h) g) (values_sourced seed v inputs w.words h.words);
    rows = λ w t s c a x stands names h e fits. row_legal w t s c a x stands h e;
    drops = λ w n h. goes_weaker (questions_dropped n (scene_of w)) (IsSceneCast p) (λ s. Legal (with_scene w s)) (λ s g. scene_legal w s g h) (dropped_cast p n (scene_of w) (cast_of p seed w h));
    stops = λ w inhabited h. legal_of p seed _ (stopped_cast p w.devices.usage w.targets (cast_of p seed w h)) h.words;
    disposes = λ w n inhabited clone h. legal_of p seed _ (disposed_cast p w.devices.usage w.targets (cast_of p seed w h) n clone) h.words;
    untimed = λ w n h. legal_of p seed _ (cast_of p seed w h) h.words;
    clones = λ w original target inhabited hosted room next h. clone_legal w original target inhabited hosted room h;
    clock = λ w c low high h. legal_of p seed _ (cast_of p seed w h) h.words;
    timer_gone = λ w k h. legal_of p seed _ (cast_of p seed w h) h.words;
    emptied = λ w n h. goes_weaker (bubble_emptied n (scene_of w)) (IsSceneCast p) (λ s. Legal (with_scene w s)) (λ s g. scene_legal w s g h) (emptied_cast p n (scene_of w) (cast_of p seed w h));
    noted = λ w x v edge inhabited h. noted_legal w x v edge inhabited h;
    counted = λ w n h. legal_of p seed _ (cast_of p seed w h) h.words;
    renews = λ w h. legal_of p seed _ (renewed_cast p w.devices.usage w.targets (cast_of p seed w h)) h.words;
    key_held = λ w k is h. legal_of p seed _ (cast_of p seed w h) h.words;
    key_free = λ w k h. legal_of p seed _ (cast_of p seed w h) h.words;
    mouse = λ w x y a b h. legal_of p seed _ (cast_of p seed w h) h.words;
    button = λ w down h. legal_of p seed _ (cast_of p seed w h) h.words;
    turbo = λ w on h. legal_of p seed _ (cast_of p seed w h) h.words;
    answer = λ w text short h. legal_of p seed _ (cast_of p seed w h) h.words;
    answers = λ w q qs e h. goes_weaker (first_taken q.bubble q.of (record (scene_of w) { devices = record w.devices { questions = qs } })) (IsSceneCast p) (λ s. Legal (with_scene w s)) (λ s g. scene_legal w s g h)
        (taken_cast p q.bubble q.of (record (scene_of w) { devices = record w.devices { questions = qs } }) (cast_of p seed w h));
  }
