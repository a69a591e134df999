-- Stopping others, deleting a clone and making one keep all threads legal.
use Rattle.std.proofs.Common.{◌≡◌, ℕ, Bool, true, false, ◌&&◌, List, Option, Some, None, inl, inr, refl, sym, ap, subst, arith}
use Rattle.std.specs.Prelude.{IfSome, ◌==◌}
use Rattle.machine_spec.specs.Outcome.{Goes, IfGoes, then_do}
use Rattle.machine_spec.specs.Script.{Statement}
use Rattle.machine_spec.specs.Program.{Program}
use Rattle.machine_spec.specs.Pending.{Item, gone, settle}
use Rattle.machine_spec.specs.Places.{place, running}
use Rattle.machine_spec.specs.Starting.{finished_of}
use Rattle.machine_spec.specs.Stopping.{scene_of, with_scene, is_clone, disposed, without_timers, questions_dropped}
use Rattle.machine_spec.specs.Tasks.{Task, tasks}
use Rattle.machine_spec.specs.World.{World}
use Rattle.machine_spec.specs.Step.{moved, others_stopped, clone_deleted, deleted_if}
use Rattle.laws_of_threads.proofs.Depths.{depths_ended}
use Rattle.laws_of_threads.specs.Lists.{Excused}
use Rattle.laws_of_threads.specs.Promises.{IsLive, Serials, askers, speakers}
use Rattle.laws_of_threads.proofs.Numbers.{equal_true}
use Rattle.machine_spec.specs.declared.instance.Instance.{Instance}
use Rattle.machine_spec.specs.Lists.{first_removed}
use Rattle.laws_of_threads.proofs.Faces.{number_hosts, hosts_member, askers_on, speakers_on}
use Rattle.laws_of_threads.proofs.RowFits.{goes_then}
use Rattle.laws_of_threads.proofs.Crews.{crew_map, excused_map, with_some}
use Rattle.laws_of_threads.proofs.Staying.{stays}
use Rattle.laws_of_threads.proofs.Moving.{IsAtWork, Other, After, gone_after}
use Rattle.laws_of_threads.proofs.Ending.{Gone, dropped_gone, each_out, Fewer, fewer_then, fewer_timers, dropped_fewer, each_ended, ended_serials, running_spared, crew_ended, still}
use Rattle.laws_of_threads.proofs.Disposing.{disposed_inhabited, faces_inhabited, removed_on}
use Rattle.laws_of_threads.proofs.Acting.{Free, settle_after}

module _ (p : Program) (i : ℕ) (t : Task) (s : Statement) (r : List Item) where
  -- Stopping others

  others_free : (v : World Task) → Free p i t s r v → IfGoes (others_stopped i t.of v) (Free p i t s r)
  others_free v h = goes_then (questions_dropped t.of (scene_of v)) _ (Fewer (scene_of v)) (Free p i t s r) (dropped_fewer t.of (scene_of v))
      (λ sc f. let u : World Task = record (with_scene v sc) { threads = finished_of tasks (Some (place i v.threads)) t.of v.threads } in record {
        runs = running_spared t.of i v.threads t h.runs;
        other = record {
          sound = record {
            inhabited = faces_inhabited p.records v.next_instance v.targets sc.targets f.faces h.other.sound.inhabited;
            asking = f.asked v.next_thread h.other.sound.asking;
            speaking = f.spoken v.next_thread h.other.sound.speaking;
            askers_live = f.askers_live sc.targets (askers_on v.targets sc.targets v.devices f.faces h.other.sound.askers_live);
            speakers_live = f.speakers_live sc.targets (speakers_on v.targets sc.targets v.devices f.faces h.other.sound.speakers_live);
          };
          crew = crew_ended (Excused (λ x. x.serial) t.serial (IsAtWork p u)) (Some (place i v.threads)) t.of v.next_thread v.threads (λ x. inr (inl (refl, refl)))
              (crew_map (Excused (λ x. x.serial) t.serial (IsAtWork p v)) (Excused (λ x. x.serial) t.serial (IsAtWork p u)) v.next_thread v.threads
              (λ x. excused_map (IsAtWork p v) (IsAtWork p u) t.serial x
              (stays p v.targets sc.targets v.devices.clock sc.devices.clock v.next_thread v.next_thread (askers v.devices) (speakers v.devices) (askers sc.devices) (speakers sc.devices) x (f.faces.on x.of) (let e = f.clock in omega (arith, e)) (omega arith) (f.asking x.serial) (f.speaking x.serial)))
              h.other.crew);
          few = (let a = depths_ended (Some (place i v.threads)) t.of 0 v.threads.list in let f = h.other.few in omega (arith, a, f));
        };
        owner = record { target = h.owner.target; hosted = f.faces.on t.of h.owner.target h.owner.hosted; head = h.owner.head; heads = h.owner.heads; hat = h.owner.hat };
        legal = h.legal;
        unasked = λ m. h.unasked (f.asking t.serial m);
        unspoken = λ m. h.unspoken (f.speaking t.serial m);
        deep = h.deep;
      })

  pub others_after : (v : World Task) → Free p i t s r v → IfGoes (then_do (others_stopped i t.of v) (λ u. Goes (moved i (settle r t.warp) u))) (After p i)
  others_after v h = goes_then (others_stopped i t.of v) _ (Free p i t s r) (After p i) (others_free v h) (λ u g. settle_after p i t s r u g)

  -- Deleting the clone

  -- the detached thread is the running one
  detached_excused : (P : Task → Type 0) (list : List Task) (o : Option Task) → running i (record { list = list; detached = o }) ≡ Some t → IfSome o (Excused (λ x. x.serial) t.serial P)
  detached_excused P list None e = tt
  detached_excused P list (Some d) e = inl (let same : d ≡ t = cc in ap (λ z. z.serial) same)

  live_other : (is : List Instance) (m : ℕ) → (m ≡ t.of → ⊥) → IsLive is m → IsLive (first_removed (λ i. i.number == t.of) is) m
  live_other is m ne h = let g = number_hosts m is h in hosts_member m g.0 (first_removed (λ i. i.number == t.of) is) (removed_on t.of is m g.0 ne g.1)

  deleted_after : (v : World Task) → is_clone p.records t.of ≡ true → Free p i t s r v → IfGoes (then_do (clone_deleted t.of v) (λ u. Goes (moved i gone u))) (After p i)
  deleted_after v clone h =
      goes_then (clone_deleted t.of v) _ (λ u. (x : Task) × (running i u.threads ≡ Some x) × Other p x.serial u) (After p i)
      (goes_then (questions_dropped t.of (scene_of (disposed t.of v))) _ (Gone t.of (scene_of (disposed t.of v))) (λ u. (x : Task) × (running i u.threads ≡ Some x) × Other p x.serial u) (dropped_gone t.of (scene_of (disposed t.of v)))
      (λ sc k0.
      let f = k0.fewer in
      let d = disposed t.of v in
      let e = without_timers t.of sc in
      let u : World Task = record (with_scene d e) { threads = finished_of tasks None t.of v.threads } in
      let g = fewer_then (scene_of d) sc e f (fewer_timers t.of sc) in
      let still_it = still t.of i v.threads t h.runs in
      let Q : Task → Type 0 = Excused (λ x. x.serial) t.serial (IsAtWork p u) in (
        still_it.u,
        still_it.runs,
        subst (λ n. Other p n u) (sym still_it.serial) (record {
          sound = record {
            inhabited = faces_inhabited p.records v.next_instance d.targets e.targets g.faces (disposed_inhabited p.records v.next_instance t.of v.targets clone h.other.sound.inhabited);
            asking = g.asked v.next_thread h.other.sound.asking;
            speaking = g.spoken v.next_thread h.other.sound.speaking;
            askers_live = askers_on d.targets e.targets e.devices g.faces (k0.askers_out v.targets d.targets (live_other v.targets) h.other.sound.askers_live);
            speakers_live = speakers_on d.targets e.targets e.devices g.faces (each_out (λ y. y.of) t.of (IsLive v.targets) (IsLive d.targets) (live_other v.targets) sc.devices.timers (f.speakers_live v.targets h.other.sound.speakers_live));
          };
          crew = record {
            listed = each_ended (Excused (λ x. x.serial) t.serial (IsAtWork p v)) Q t.of None (λ j x k ne. excused_map (IsAtWork p v) (IsAtWork p u) t.serial x
                (stays p v.targets e.targets v.devices.clock e.devices.clock v.next_thread v.next_thread (askers v.devices) (speakers v.devices) (askers e.devices) (speakers e.devices) x
                (λ q a. g.faces.on x.of q (removed_on t.of v.targets x.of q (λ same. let b = equal_true x.of t.of same in let ne' : (true && true) ≡ false = subst (λ c. (c && true) ≡ false) b ne in cc ne') a))
                (let c = g.clock in omega (arith, c)) (omega arith) (g.asking x.serial) (g.speaking x.serial)) k)
                (λ x same. inr (inl (refl, refl))) 0 v.threads.list h.other.crew.listed;
            detached = detached_excused (IsAtWork p u) v.threads.list v.threads.detached h.runs;
            serials = subst (λ l. Serials v.next_thread (with_some v.threads.detached l)) (sym (ended_serials Q Q t.of None 0 v.threads.list)) h.other.crew.serials;
          };
          few = (let a = depths_ended None t.of 0 v.threads.list in let f = h.other.few in omega (arith, a, f));
        }),
      )))
      (λ u x. gone_after p i x.0 u x.1 x.2)

  deleted_by : (b : Bool) (v : World Task) → is_clone p.records t.of ≡ b → Free p i t s r v → IfGoes (deleted_if b i t (settle r t.warp) v) (After p i)
  deleted_by true v e h = deleted_after v e h
  deleted_by false v e h = settle_after p i t s r v h

  pub delete_after : (v : World Task) → Free p i t s r v → IfGoes (deleted_if (is_clone p.records t.of) i t (settle r t.warp) v) (After p i)
  delete_after v h = deleted_by (is_clone p.records t.of) v refl h
