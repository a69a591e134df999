-- Visits, passes, and all the passes of a frame keep the world legal.
use Rattle.std.proofs.Common.{◌≡◌, ℕ, zero, suc, ◌+◌, Bool, true, false, not, ◌||◌, if◌then◌else◌, List, [], ◌∷◌, filter, drop, Option, Some, None, inl, inr, refl, sym, ap, ◌∙◌, subst, arith, cond}
use Rattle.std.specs.Prelude.{◌<◌, slice_get, IfSome, ◌≤◌, ◌+◌, if◌then◌else◌}
use Rattle.machine_spec.specs.declared.threads.Context.TheVariants.{Started}
use Rattle.machine_spec.specs.declared.threads.Status.{Status}
use Rattle.machine_spec.specs.declared.threads.Status.TheVariants.{Running, YieldTick as Ticking, PromiseWait as Waiting, Done}
use Rattle.machine_spec.specs.declared.threads.Which.TheVariants.{Slot}
use Rattle.machine_spec.specs.Outcome.{Outcome, Goes, IfGoes, then_do, most_levels}
use Rattle.machine_spec.specs.Program.{Program}
use Rattle.machine_spec.specs.Threads.{is_done}
use Rattle.machine_spec.specs.Pending.{markers, Item, Do, Held, Returned, Branch, Again, Back}
use Rattle.machine_spec.specs.Legal.{StatusFits, waits_for_promise, waits_for_started}
use Rattle.machine_spec.specs.Places.{Places, place_by, running, on_place, on_running}
use Rattle.machine_spec.specs.Tasks.{depth, Task}
use Rattle.machine_spec.specs.World.{World}
use Rattle.machine_spec.specs.Slice.{go_on, woken, without_detached, Passed, turn, visit, gets_slice, next_place, pass_on, pass, most_slices, without_done}
use Rattle.machine_spec.specs.Frame.{passes_go_on, passes}
use Rattle.laws_of_threads.proofs.Depths.{all_depths, all_moved, levels_are, depths_filter}
use Rattle.laws_of_threads.specs.Lists.{Each, Excused}
use Rattle.laws_of_threads.specs.Promises.{Serials}
use Rattle.laws_of_threads.specs.Scripts.{IsProgram}
use Rattle.laws_of_threads.specs.Worlds.{IsLegalThread, IsLegalWorld}
use Rattle.laws_of_threads.proofs.Numbers.{each_map, differ_filter, numbers_filter, clash}
use Rattle.laws_of_threads.proofs.RowFits.{goes_then, goes_weaker}
use Rattle.laws_of_threads.proofs.Crews.{Crew, crew_map, crew_moved, each_get, with_some, serials}
use Rattle.laws_of_threads.proofs.Moving.{IsAtWork, Moving, running_moved}
use Rattle.laws_of_threads.proofs.Slices.{MayRun, turn_moving}

-- between two visits
pub record Paused (p : Program) (w : World Task) : Type 0 where
  pub moving : Moving p w
  pub none_detached : w.threads.detached ≡ None

started_free : (items : List Item) → waits_for_started items ≡ true → waits_for_promise items ≡ false
started_free (Held s (Started ns) ∷ r) e = refl
started_free [] e = absurd (cc e)
started_free (Do s ∷ r) e = absurd (cc e)
started_free (Held s c ∷ r) e = absurd (cc e)
started_free (Returned s ps ∷ r) e = absurd (cc e)
started_free (Branch s v ∷ r) e = absurd (cc e)
started_free (Again s c v ∷ r) e = absurd (cc e)
started_free (Back s ps v ∷ r) e = absurd (cc e)

slice_free : (first : Bool) (s : Status) (items : List Item) → gets_slice first s ≡ true → StatusFits s items → waits_for_promise items ≡ false
slice_free first Running items e h = h
slice_free first Ticking items e h = started_free items h
slice_free first Waiting items e h = absurd (cc e)
slice_free first Done items e h = absurd (cc e)

slice_alive : (first : Bool) (s : Status) → gets_slice first s ≡ true → is_done s ≡ false
slice_alive first Running e = refl
slice_alive first Ticking e = refl
slice_alive first Waiting e = refl
slice_alive first Done e = absurd (cc e)

-- The thread that is visited next

pub record Visited (first : Bool) (all : List Task) (j : ℕ) : Type 0 where
  pub t : Task
  pub at : slice_get all j ≡ Some t
  pub gets : gets_slice first t.status ≡ true

next_by : (c : Bool) (first : Bool) (n : ℕ) (t : Task) (ts all : List Task) (j : ℕ) → gets_slice first t.status ≡ c → slice_get all n ≡ Some t → (next_place first (suc n) ts ≡ Some j → Visited first all j)
    → (if c then Some n else next_place first (suc n) ts) ≡ Some j → Visited first all j
next_by true first n t ts all j e at more h = let same : n ≡ j = cc in record { t = t; at = subst (λ k. slice_get all k ≡ Some t) same at; gets = e }
next_by false first n t ts all j e at more h = more h

next_visited : (first : Bool) (n : ℕ) (ts all : List Task) (j : ℕ) → ((k : ℕ) → slice_get all (n + k) ≡ slice_get ts k) → next_place first n ts ≡ Some j → Visited first all j
next_visited first n [] all j same h = absurd (cc h)
next_visited first n (t ∷ ts) all j same h =
    let z : n ≡ n + 0 = omega arith in
    next_by (gets_slice first t.status) first n t ts all j refl (ap (slice_get all) z ∙ same 0)
    (next_visited first (suc n) ts all j (λ k. let e : suc n + k ≡ n + suc k = omega arith in ap (slice_get all) e ∙ same (suc k))) h

drop_get : (i : ℕ) (ts : List Task) (k : ℕ) → slice_get ts (i + k) ≡ slice_get (drop i ts) k
drop_get zero ts k = let e : zero + k ≡ k = omega arith in ap (slice_get ts) e
drop_get (suc i) [] k = refl
drop_get (suc i) (t ∷ ts) k = let e : suc i + k ≡ suc (i + k) = omega arith in ap (slice_get (t ∷ ts)) e ∙ drop_get i ts k

pub place_visited : (first : Bool) (i : ℕ) (ts : List Task) (j : ℕ) → next_place first i (drop i ts) ≡ Some j → Visited first ts j
place_visited first i ts j h = next_visited first i (drop i ts) ts j (drop_get i ts) h

-- Visits

abbrev wake : Task → Task
wake t = record t { status = Running }

slot_by : (list : List Task) (o : Option Task) (j : ℕ) → o ≡ None → running j (record { list = list; detached = o }) ≡ slice_get list j
slot_by list None j e = refl
slot_by list (Some d) j e = absurd (cc e)

unsome : (a b : Task) → Some a ≡ Some b → a ≡ b
unsome a b h = cc

module _ (p : Program) (good : IsProgram p) where
  running_slot : (ts : Places Task) (j : ℕ) → ts.detached ≡ None → running j ts ≡ slice_get ts.list j
  running_slot ts j e = slot_by ts.list ts.detached j e

  on_slot : (ts : Places Task) (j : ℕ) → ts.detached ≡ None → on_running wake j ts ≡ on_place wake (Slot j) ts
  on_slot ts j e = ap (λ d. on_place wake (place_by j d) ts) e

  pub record Woken (j : ℕ) (w : World Task) : Type 0 where
    pub moving : Moving p w
    pub free : MayRun j w

  woken_stays : (first : Bool) (w : World Task) (t : Task) → gets_slice first t.status ≡ true → IsAtWork p w t → IsAtWork p w (wake t)
  woken_stays first w t e (inl h) = absurd (clash (is_done t.status) h.0 (slice_alive first t.status e))
  woken_stays first w t e (inr h) = inr (record {
    target = h.target;
    hosted = h.hosted;
    head = h.head;
    heads = h.heads;
    hat = h.hat;
    legal = h.legal;
    status = slice_free first t.status t.items e h.status;
    kept = h.kept;
    asked = h.asked;
    spoken = h.spoken;
  })

  free_stays : (first : Bool) (w : World Task) (t : Task) → gets_slice first t.status ≡ true → IsAtWork p w t → waits_for_promise t.items ≡ false
  free_stays first w t e (inl h) = absurd (clash (is_done t.status) h.0 (slice_alive first t.status e))
  free_stays first w t e (inr h) = slice_free first t.status t.items e h.status

  pub woken_moving : (first : Bool) (j : ℕ) (w : World Task) → Paused p w → Visited first w.threads.list j → Woken j (woken j w)
  woken_moving first j w h v =
      let runs : running j w.threads ≡ Some v.t = running_slot w.threads j h.none_detached ∙ v.at in
      let its = each_get (IsAtWork p w) w.threads.list j v.t v.at h.moving.crew.listed in
      record {
        moving = record {
          sound = record { inhabited = h.moving.sound.inhabited; asking = h.moving.sound.asking; speaking = h.moving.sound.speaking; askers_live = h.moving.sound.askers_live; speakers_live = h.moving.sound.speakers_live };
          crew = subst (Crew (IsAtWork p w) w.next_thread) (on_slot w.threads j h.none_detached)
              (crew_moved (IsAtWork p w) w.next_thread j w.threads v.t wake runs refl
              (crew_map (IsAtWork p w) (Excused (λ x. x.serial) v.t.serial (IsAtWork p w)) w.next_thread w.threads (λ x k. inr k) h.moving.crew)
              (woken_stays first w v.t v.gets its));
          few = subst (λ ts. all_depths ts ≤ most_levels) (on_slot w.threads j h.none_detached)
              (let m : all_depths (on_running wake j w.threads) + depth v.t ≡ all_depths w.threads + (markers v.t.items + 1) = all_moved j w.threads v.t wake runs in
              let d : depth v.t ≡ markers v.t.items + 1 = ap (λ b. if b then 0 else markers v.t.items + 1) (slice_alive first v.t.status v.gets) in
              let f = h.moving.few in omega (arith, m, d, f));
        };
        free = λ u e.
            let same : Some (wake v.t) ≡ Some u = sym (subst (λ ts. running j ts ≡ Some (wake v.t)) (on_slot w.threads j h.none_detached) (running_moved j w.threads v.t wake runs)) ∙ e in
            subst (λ x. waits_for_promise x.items ≡ false) (unsome (wake v.t) u same) (free_stays first w v.t v.gets its);
      }

  left_serials : (next : ℕ) (o : Option Task) (ns : List ℕ) → Serials next (with_some o ns) → Serials next ns
  left_serials next None ns s = s
  left_serials next (Some t) ns s = record { differ = s.differ.1; given = s.given.1 }

  pub undetached : (w : World Task) → Moving p w → Paused p (without_detached w)
  undetached w h = record {
    moving = record {
      sound = record { inhabited = h.sound.inhabited; asking = h.sound.asking; speaking = h.sound.speaking; askers_live = h.sound.askers_live; speakers_live = h.sound.speakers_live };
      crew = record { listed = h.crew.listed; detached = tt; serials = left_serials w.next_thread w.threads.detached (serials w.threads.list) h.crew.serials };
      few = (let f = h.few in omega (arith, f));
    };
    none_detached = refl;
  }

  abbrev pub PausedAt : Passed → Type 0
  PausedAt x = Paused p x.world

  visit_paused : (first : Bool) (budget j : ℕ) (w : World Task) → Paused p w → Visited first w.threads.list j → IfGoes (visit p budget j w) PausedAt
  visit_paused first budget j w h v =
      let k = woken_moving first j w h v in
      goes_then (turn p budget j (woken j w)) _ (Moving p) PausedAt (turn_moving p good j budget (woken j w) k.moving k.free) (λ u g. undetached u g)

  -- Passes

  pass_on_paused : (first : Bool) (budget : ℕ) (o : Option ℕ) (w : World Task) (active : Bool) (rest : ℕ → World Task → Bool → Outcome Passed) → ((j : ℕ) → o ≡ Some j → Visited first w.threads.list j)
      → ((i : ℕ) (v : World Task) (a : Bool) → Paused p v → IfGoes (rest i v a) PausedAt) → Paused p w → IfGoes (pass_on p budget o w active rest) PausedAt
  pass_on_paused first budget None w active rest f more h = h
  pass_on_paused first budget (Some j) w active rest f more h = goes_then (visit p budget j w) _ PausedAt PausedAt (visit_paused first budget j w h (f j refl)) (λ x g. more (suc j) x.world (active || x.active) g)

  pass_paused : (first : Bool) (budget n i : ℕ) (w : World Task) (active : Bool) → Paused p w → IfGoes (pass p first budget n i w active) PausedAt
  unfolding pass
  pass_paused first budget zero i w active h = h
  pass_paused first budget (suc n) i w active h =
      pass_on_paused first budget (next_place first i (drop i w.threads.list)) w active (pass p first budget n) (λ j e. place_visited first i w.threads.list j e) (λ k v a g. pass_paused first budget n k v a g) h

  -- The end of a pass

  alive_by : (w : World Task) (t : Task) (c : Bool) → is_done t.status ≡ c → not c ≡ true → IsAtWork p w t → IsLegalThread p w t
  alive_by w t true e f h = absurd (cc f)
  alive_by w t false e f (inl h) = absurd (clash (is_done t.status) h.0 e)
  alive_by w t false e f (inr h) = record { alive = e; thread = h }

  kept_by : (w : World Task) (c : Bool) (t : Task) (ts : List Task) → not (is_done t.status) ≡ c → IsAtWork p w t → Each (IsLegalThread p w) ts → Each (IsLegalThread p w) (cond c (t ∷ ts) ts)
  kept_by w true t ts e h g = (alive_by w t (is_done t.status) refl e h, g)
  kept_by w false t ts e h g = g

  kept : (w : World Task) (ts : List Task) → Each (IsAtWork p w) ts → Each (IsLegalThread p w) (filter (λ t. not (is_done t.status)) ts)
  kept w [] h = tt
  kept w (t ∷ ts) h = kept_by w (not (is_done t.status)) t (filter (λ x. not (is_done x.status)) ts) refl h.0 (kept w ts h.1)

  pub legal_without_done : (w : World Task) → Paused p w → IsLegalWorld p (without_done w)
  legal_without_done w h = record {
    sound = record { inhabited = h.moving.sound.inhabited; asking = h.moving.sound.asking; speaking = h.moving.sound.speaking; askers_live = h.moving.sound.askers_live; speakers_live = h.moving.sound.speakers_live };
    threads = each_map (IsLegalThread p w) (IsLegalThread p (without_done w)) (filter (λ t. not (is_done t.status)) w.threads.list) (λ t k. record { alive = k.alive; thread = k.thread }) (kept w w.threads.list h.moving.crew.listed);
    serials =
        let s = left_serials w.next_thread w.threads.detached (serials w.threads.list) h.moving.crew.serials in
        record {
          differ = differ_filter (λ t. t.serial) (λ t. not (is_done t.status)) w.threads.list s.differ;
          given = numbers_filter (λ t. t.serial) (λ t. not (is_done t.status)) (λ n. n < w.next_thread) w.threads.list s.given;
        };
    none_detached = refl;
    few = (let e = levels_are (without_done w).threads in let a = depths_filter (λ t. not (is_done t.status)) w.threads.list in let f = h.moving.few in omega (arith, e, a, f));
  }

  pub paused_legal : (w : World Task) → IsLegalWorld p w → Paused p w
  paused_legal w h = record {
    moving = record {
      sound = h.sound;
      crew = record {
        listed = each_map (IsLegalThread p w) (IsAtWork p w) w.threads.list (λ t k. inr k.thread) h.threads;
        detached = subst (λ o. IfSome o (IsAtWork p w)) (sym h.none_detached) tt;
        serials = subst (λ o. Serials w.next_thread (with_some o (serials w.threads.list))) (sym h.none_detached) h.serials;
      };
      few = (let e = levels_are w.threads in let f = h.few in omega (arith, e, f));
    };
    none_detached = h.none_detached;
  }

  pub pass_legal : (first : Bool) (budget : ℕ) (w : World Task) → IsLegalWorld p w → IfGoes (pass p first budget most_slices 0 w false) (λ x. IsLegalWorld p (without_done x.world))
  pass_legal first budget w h = goes_weaker (pass p first budget most_slices 0 w false) PausedAt (λ x. IsLegalWorld p (without_done x.world)) (λ x g. legal_without_done x.world g) (pass_paused first budget most_slices 0 w false (paused_legal w h))

  on_legal : (b : Bool) (w : World Task) (rest : World Task → Outcome (World Task)) → IfGoes (rest w) (IsLegalWorld p) → IsLegalWorld p w → IfGoes (go_on b rest (λ v. Goes v) w) (IsLegalWorld p)
  on_legal true w rest f h = f
  on_legal false w rest f h = h

  pub passes_legal : (budget n : ℕ) (first active : Bool) (w : World Task) → IsLegalWorld p w → IfGoes (passes p budget n first active w) (IsLegalWorld p)
  unfolding passes
  passes_legal budget zero first active w h = h
  passes_legal budget (suc n) first active w h =
      on_legal (passes_go_on active w) w (λ v. then_do (pass p first budget most_slices 0 v false) (λ x. passes p budget n false x.active (without_done x.world)))
      (goes_then (pass p first budget most_slices 0 w false) _ (λ x. IsLegalWorld p (without_done x.world)) (IsLegalWorld p) (pass_legal first budget w h) (λ x g. passes_legal budget n false x.active (without_done x.world) g)) h
