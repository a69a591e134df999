-- Bubble timers that end, and answers, keep the world legal.
use Rattle.std.proofs.Common.{◌≡◌, ℕ, zero, suc, ◌+◌, Bool, true, false, if◌then◌else◌, List, [], ◌∷◌, map, Option, Some, None, inl, inr, ◌⊎◌, refl, sym, ap, ◌∙◌, subst, arith}
use Rattle.std.specs.Prelude.{remove, ◌<◌, slice_get}
use Rattle.machine_spec.specs.declared.threads.Context.TheVariants.{Asked, Spoken}
use Rattle.machine_spec.specs.declared.devices.Question.{Question}
use Rattle.machine_spec.specs.declared.devices.BubbleTimer.{BubbleTimer}
use Rattle.machine_spec.specs.Outcome.{Outcome, Goes, IfGoes}
use Rattle.machine_spec.specs.Program.{Program}
use Rattle.machine_spec.specs.Pending.{Item, Do, Held, Returned, Branch, Again, Back}
use Rattle.machine_spec.specs.Legal.{waits_for_promise}
use Rattle.machine_spec.specs.Parts.{Scene}
use Rattle.machine_spec.specs.Stores.{live, less}
use Rattle.machine_spec.specs.Stopping.{scene_of, with_scene, bubble_emptied, first_taken}
use Rattle.machine_spec.specs.Tasks.{Task}
use Rattle.machine_spec.specs.World.{World}
use Rattle.machine_spec.specs.Frame.{is_due, Found, sooner, next_due, without_timer, still_fits, timer_ended, end_due, timers_ended}
use Rattle.machine_spec.specs.Line.{answered}
use Rattle.laws_of_threads.specs.Lists.{Each, Member, Differ}
use Rattle.laws_of_threads.specs.Promises.{IsLive, Serials, askers, speakers}
use Rattle.laws_of_threads.specs.Threads.{is_asked, is_spoken}
use Rattle.laws_of_threads.specs.Worlds.{IsLegalThread, IsLegalWorld}
use Rattle.laws_of_threads.proofs.Numbers.{removed_member, removed_differ, removed_given, removed_out, got_member, each_map, clash}
use Rattle.laws_of_threads.proofs.Faces.{askers_on, speakers_on, faces_same}
use Rattle.laws_of_threads.proofs.RowFits.{goes_then}
use Rattle.laws_of_threads.proofs.Calm.{Calm, calm_same}
use Rattle.laws_of_threads.proofs.Staying.{thread_stays}
use Rattle.laws_of_threads.proofs.Ending.{Fewer, fewer_then, fewer_calm, emptied_calm, taken_calm}
use Rattle.laws_of_threads.proofs.Disposing.{faces_inhabited}
use Rattle.laws_of_threads.proofs.Resuming.{IsReleased, resumed_legal}

-- a scene in which fewer are named
pub fewer_legal : (p : Program) (w : World Task) (s : Scene) → Fewer (scene_of w) s → IsLegalWorld p w → IsLegalWorld p (with_scene w s)
fewer_legal p w s f h = record {
  sound = record {
    inhabited = faces_inhabited p.records w.next_instance w.targets s.targets f.faces h.sound.inhabited;
    asking = f.asked w.next_thread h.sound.asking;
    speaking = f.spoken w.next_thread h.sound.speaking;
    askers_live = f.askers_live s.targets (askers_on w.targets s.targets w.devices f.faces h.sound.askers_live);
    speakers_live = f.speakers_live s.targets (speakers_on w.targets s.targets w.devices f.faces h.sound.speakers_live);
  };
  threads = each_map (IsLegalThread p w) (IsLegalThread p (with_scene w s)) w.threads.list
      (λ t k. record {
        alive = k.alive;
        thread = thread_stays p w.targets s.targets w.devices.clock s.devices.clock w.next_thread w.next_thread (askers w.devices) (speakers w.devices) (askers s.devices) (speakers s.devices) t
            (f.faces.on t.of) (let e = f.clock in omega (arith, e)) (omega arith) (f.asking t.serial) (f.speaking t.serial) k.thread;
      }) h.threads;
  serials = h.serials;
  none_detached = h.none_detached;
  few = h.few;
}

-- who has spoken has not asked, and the other way round
spoken_unasked : (items : List Item) → is_spoken items ≡ true → is_asked items ≡ false
spoken_unasked (Held s Spoken ∷ r) e = refl
spoken_unasked [] e = refl
spoken_unasked (Do s ∷ r) e = refl
spoken_unasked (Held s c ∷ r) e = absurd (cc e)
spoken_unasked (Returned s ps ∷ r) e = refl
spoken_unasked (Branch s v ∷ r) e = refl
spoken_unasked (Again s c v ∷ r) e = refl
spoken_unasked (Back s ps v ∷ r) e = refl

spoken_waits : (items : List Item) → is_spoken items ≡ true → waits_for_promise items ≡ true
spoken_waits (Held s Spoken ∷ r) e = refl
spoken_waits [] e = absurd (cc e)
spoken_waits (Do s ∷ r) e = absurd (cc e)
spoken_waits (Held s c ∷ r) e = absurd (cc e)
spoken_waits (Returned s ps ∷ r) e = absurd (cc e)
spoken_waits (Branch s v ∷ r) e = absurd (cc e)
spoken_waits (Again s c v ∷ r) e = absurd (cc e)
spoken_waits (Back s ps v ∷ r) e = absurd (cc e)

asked_waits : (items : List Item) → is_asked items ≡ true → waits_for_promise items ≡ true
asked_waits (Held s Asked ∷ r) e = refl
asked_waits [] e = absurd (cc e)
asked_waits (Do s ∷ r) e = absurd (cc e)
asked_waits (Held s c ∷ r) e = absurd (cc e)
asked_waits (Returned s ps ∷ r) e = absurd (cc e)
asked_waits (Branch s v ∷ r) e = absurd (cc e)
asked_waits (Again s c v ∷ r) e = absurd (cc e)
asked_waits (Back s ps v ∷ r) e = absurd (cc e)

unsome : (a b : Found) → Some a ≡ Some b → a ≡ b
unsome a b h = cc

removed_each : {A : Type 0} (P : A → Type 0) (xs : List A) (k : ℕ) → Each P xs → Each P (remove xs k)
removed_each P [] zero d = d
removed_each P [] (suc k) d = d
removed_each P (x ∷ xs) zero d = d.1
removed_each P (x ∷ xs) (suc k) d = (d.0, removed_each P xs k d.1)

module _ (p : Program) where
  -- A timer ends

  fewer_timer : (k : ℕ) (w : World Task) → Fewer (scene_of w) (scene_of (without_timer k w))
  fewer_timer k w = record {
    faces = faces_same w.targets;
    clock = refl;
    asking = λ m h. h;
    speaking = λ m h. removed_member (λ t. t.thread) w.devices.timers k m h;
    asked = λ next h. h;
    spoken = λ next h. record {
      differ = removed_differ (λ t. t.thread) w.devices.timers k h.differ;
      given = removed_given (λ t. t.thread) (λ m. m < next) w.devices.timers k h.given;
    };
    askers_live = λ is h. h;
    speakers_live = λ is h. removed_each (λ t. IsLive is t.of) w.devices.timers k h;
  }

  ended_by : (b : Bool) (n : ℕ) (s : Scene) → IfGoes (if b then bubble_emptied n s else Goes s) (Calm s)
  ended_by true n s = emptied_calm n s
  ended_by false n s = calm_same s

  timer_legal : (k : ℕ) (y : BubbleTimer) (w : World Task) → slice_get w.devices.timers k ≡ Some y → IsLegalWorld p w → IfGoes (timer_ended y (without_timer k w)) (IsLegalWorld p)
  timer_legal k y w e h =
      let v = without_timer k w in
      goes_then (if still_fits y (live y.of v.targets) then bubble_emptied y.of (scene_of v) else Goes (scene_of v)) _ (Calm (scene_of v)) (IsLegalWorld p) (ended_by (still_fits y (live y.of v.targets)) y.of (scene_of v))
      (λ s c.
      let f = fewer_then (scene_of w) (scene_of v) s (fewer_timer k w) (fewer_calm (scene_of v) s c) in
      resumed_legal p y.thread (with_scene v s) (fewer_legal p w s f h)
      (each_map (IsLegalThread p w) (λ t. t.serial ≡ y.thread → IsReleased (with_scene v s) t) w.threads.list
      (λ t g same.
      let spoken : is_spoken t.items ≡ true = g.thread.spoken (subst (λ n. Member n (speakers w.devices)) (sym same) (got_member (λ x. x.thread) w.devices.timers k y e)) in
      record {
        waits = spoken_waits t.items spoken;
        unasked = λ m. clash (is_asked t.items) (g.thread.asked (f.asking t.serial m)) (spoken_unasked t.items spoken);
        unspoken = λ m. removed_out (λ x. x.thread) w.devices.timers k y e h.sound.speaking.differ (subst (λ n. Member n (speakers v.devices)) same ((fewer_calm (scene_of v) s c).speaking t.serial m));
      }) h.threads))

  -- the timer that ends next is at its place
  sooner_by : (b : Bool) (x y f : Found) → (if b then Some y else Some x) ≡ Some f → (x ≡ f) ⊎ (y ≡ f)
  sooner_by true x y f e = inr (unsome y f e)
  sooner_by false x y f e = inl (unsome x f e)

  sooner_is : (x : Found) (o : Option Found) (f : Found) → sooner x o ≡ Some f → (x ≡ f) ⊎ (o ≡ Some f)
  sooner_is x None f e = inl (unsome x f e)
  sooner_is x (Some y) f e = elim (sooner_by (less y.timer.due x.timer.due) x y f e) [ inl a ↦ inl a | inr b ↦ inr (ap Some b) ]

  due_by : (b : Bool) (n : ℕ) (t : BubbleTimer) (o : Option Found) (all : List BubbleTimer) (f : Found) → slice_get all n ≡ Some t → (o ≡ Some f → slice_get all f.at ≡ Some f.timer)
      → (if b then sooner (record { at = n; timer = t }) o else o) ≡ Some f → slice_get all f.at ≡ Some f.timer
  due_by true n t o all f e more h = elim (sooner_is (record { at = n; timer = t }) o f h) [ inl a ↦ subst (λ g. slice_get all g.at ≡ Some g.timer) a e | inr b ↦ more b ]
  due_by false n t o all f e more h = more h

  due_at : (clock n : ℕ) (ts all : List BubbleTimer) (f : Found) → ((k : ℕ) → slice_get all (n + k) ≡ slice_get ts k) → next_due clock n ts ≡ Some f → slice_get all f.at ≡ Some f.timer
  due_at clock n [] all f same h = absurd (cc h)
  due_at clock n (t ∷ ts) all f same h =
      let z : n ≡ n + 0 = omega arith in
      due_by (is_due clock t) n t (next_due clock (suc n) ts) all f (ap (slice_get all) z ∙ same 0)
      (due_at clock (suc n) ts all f (λ k. let e : suc n + k ≡ n + suc k = omega arith in ap (slice_get all) e ∙ same (suc k))) h

  end_due_legal : (o : Option Found) (w : World Task) (rest : World Task → Outcome (World Task)) → ((f : Found) → o ≡ Some f → slice_get w.devices.timers f.at ≡ Some f.timer)
      → ((v : World Task) → IsLegalWorld p v → IfGoes (rest v) (IsLegalWorld p)) → IsLegalWorld p w → IfGoes (end_due o w rest) (IsLegalWorld p)
  end_due_legal None w rest at more h = h
  end_due_legal (Some f) w rest at more h = goes_then (timer_ended f.timer (without_timer f.at w)) rest (IsLegalWorld p) (IsLegalWorld p) (timer_legal f.at f.timer w (at f refl) h) more

  pub timers_legal : (n : ℕ) (w : World Task) → IsLegalWorld p w → IfGoes (timers_ended n w) (IsLegalWorld p)
  unfolding timers_ended
  timers_legal zero w h = h
  timers_legal (suc n) w h = end_due_legal (next_due w.devices.clock 0 w.devices.timers) w (timers_ended n)
      (λ f e. due_at w.devices.clock 0 w.devices.timers w.devices.timers f (λ k. let z : 0 + k ≡ k = omega arith in ap (slice_get w.devices.timers) z) e)
      (λ v g. timers_legal n v g) h

  -- An answer

  pub answered_legal : (qs : List Question) (w : World Task) → w.devices.questions ≡ qs → IsLegalWorld p w → IfGoes (answered qs w) (IsLegalWorld p)
  answered_legal [] w e h = h
  answered_legal (q ∷ qs) w e h =
      let s0 : Scene = record (scene_of w) { devices = record w.devices { questions = qs } } in
      let asking : askers w.devices ≡ q.thread ∷ map (λ x. x.thread) qs = ap (map (λ x. x.thread)) e in
      let d : Differ (q.thread ∷ map (λ x. x.thread) qs) = subst Differ asking h.sound.asking.differ in
      let f0 : Fewer (scene_of w) s0 = record {
        faces = faces_same w.targets;
        clock = refl;
        asking = λ m a. subst (Member m) (sym asking) (inr a);
        speaking = λ m a. a;
        asked = λ next s. let t = subst (Serials next) asking s in record { differ = t.differ.1; given = t.given.1 };
        spoken = λ next s. s;
        askers_live = λ is k. (subst (Each (λ x. IsLive is x.of)) e k).1;
        speakers_live = λ is k. k;
      } in
      goes_then (first_taken q.bubble q.of s0) _ (Calm s0) (IsLegalWorld p) (taken_calm q.bubble q.of s0)
      (λ s c.
      let f = fewer_then (scene_of w) s0 s f0 (fewer_calm s0 s c) in
      resumed_legal p q.thread (with_scene w s) (fewer_legal p w s f h)
      (each_map (IsLegalThread p w) (λ t. t.serial ≡ q.thread → IsReleased (with_scene w s) t) w.threads.list
      (λ t g same.
      let is : is_asked t.items ≡ true = g.thread.asked (subst (Member t.serial) (sym asking) (inl (sym same))) in
      record {
        waits = asked_waits t.items is;
        unasked = λ m. d.0 (subst (λ n. Member n (map (λ x. x.thread) qs)) same ((fewer_calm s0 s c).asking t.serial m));
        unspoken = λ m. clash (is_asked t.items) is (spoken_unasked t.items (g.thread.spoken (f.speaking t.serial m)));
      }) h.threads))
