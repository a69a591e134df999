-- Threads that are ended, and questions and timers that are dropped.
use Rattle.std.proofs.Common.{cond, filter, ◌≡◌, ℕ, zero, suc, ◌+◌, ◌==◌, Bool, true, false, not, ◌&&◌, if◌then◌else◌, List, [], ◌∷◌, Option, Some, None, refl, sym, ap, ◌∙◌, subst, arith}
use Rattle.std.specs.Prelude.{◌<◌, slice_get}
use Rattle.machine_spec.specs.declared.instance.Instance.{Instance}
use Rattle.machine_spec.specs.declared.threads.Which.{Which}
use Rattle.machine_spec.specs.declared.threads.Which.TheVariants.{Slot}
use Rattle.machine_spec.specs.Outcome.{Goes, IfGoes}
use Rattle.machine_spec.specs.Stores.{instance_at}
use Rattle.machine_spec.specs.Parts.{Scene}
use Rattle.machine_spec.specs.ControlRows.{question_shown}
use Rattle.machine_spec.specs.Places.{Places, place, running}
use Rattle.machine_spec.specs.Tasks.{Task, tasks, finish}
use Rattle.machine_spec.specs.Starting.{is_spared, finished_from, finished_of}
use Rattle.machine_spec.specs.Stopping.{bubble_emptied, first_taken, is_first_of, without_questions, questions_dropped, without_timers}
use Rattle.laws_of_threads.specs.Lists.{Each, Member}
use Rattle.laws_of_threads.specs.Promises.{IsLive, AskersLive, SpeakersLive, Serials, askers, speakers}
use Rattle.laws_of_threads.proofs.Numbers.{each_filter, clash, equal, equal_true, member_filter, differ_filter, numbers_filter}
use Rattle.laws_of_threads.proofs.Faces.{Faces, faces_same, faces_then}
use Rattle.laws_of_threads.proofs.RowFits.{goes_then, goes_weaker}
use Rattle.laws_of_threads.proofs.Calm.{Calm, calm_same, calm_then, updated_calm, shown_calm}
use Rattle.laws_of_threads.proofs.Crews.{Crew, serials, with_some}

-- Scenes in which fewer are named

pub record Fewer (s t : Scene) : Type 0 where
  pub faces : Faces s.targets t.targets
  pub clock : t.devices.clock ≡ s.devices.clock
  pub asking : (n : ℕ) → Member n (askers t.devices) → Member n (askers s.devices)
  pub speaking : (n : ℕ) → Member n (speakers t.devices) → Member n (speakers s.devices)
  pub asked : (next : ℕ) → Serials next (askers s.devices) → Serials next (askers t.devices)
  pub spoken : (next : ℕ) → Serials next (speakers s.devices) → Serials next (speakers t.devices)
  pub askers_live : (is : List Instance) → AskersLive is s.devices → AskersLive is t.devices
  pub speakers_live : (is : List Instance) → SpeakersLive is s.devices → SpeakersLive is t.devices

pub fewer_then : (s t u : Scene) → Fewer s t → Fewer t u → Fewer s u
fewer_then s t u a b = record {
  faces = faces_then s.targets t.targets u.targets a.faces b.faces;
  clock = b.clock ∙ a.clock;
  asking = λ n h. a.asking n (b.asking n h);
  speaking = λ n h. a.speaking n (b.speaking n h);
  asked = λ next h. b.asked next (a.asked next h);
  spoken = λ next h. b.spoken next (a.spoken next h);
  askers_live = λ is h. b.askers_live is (a.askers_live is h);
  speakers_live = λ is h. b.speakers_live is (a.speakers_live is h);
}

pub fewer_calm : (s t : Scene) → Calm s t → Fewer s t
fewer_calm s t c = record {
  faces = c.faces;
  clock = c.clock;
  asking = λ n h. subst (Member n) c.quiet.0 h;
  speaking = λ n h. subst (Member n) c.quiet.1 h;
  asked = λ next h. subst (Serials next) (sym c.quiet.0) h;
  spoken = λ next h. subst (Serials next) (sym c.quiet.1) h;
  askers_live = c.quiet.2;
  speakers_live = c.quiet.3;
}

fewer_questions : (n : ℕ) (s : Scene) → Fewer s (without_questions n s)
fewer_questions n s = record {
  faces = faces_same s.targets;
  clock = refl;
  asking = λ m h. member_filter (λ q. q.thread) (λ q. not (q.of == n)) m s.devices.questions h;
  speaking = λ m h. h;
  asked = λ next h. record {
    differ = differ_filter (λ q. q.thread) (λ q. not (q.of == n)) s.devices.questions h.differ;
    given = numbers_filter (λ q. q.thread) (λ q. not (q.of == n)) (λ m. m < next) s.devices.questions h.given;
  };
  spoken = λ next h. h;
  askers_live = λ is h. each_filter (λ q. IsLive is q.of) (λ q. not (q.of == n)) s.devices.questions h;
  speakers_live = λ is h. h;
}

pub fewer_timers : (n : ℕ) (s : Scene) → Fewer s (without_timers n s)
fewer_timers n s = record {
  faces = faces_same s.targets;
  clock = refl;
  asking = λ m h. h;
  speaking = λ m h. member_filter (λ t. t.thread) (λ t. not (t.of == n)) m s.devices.timers h;
  asked = λ next h. h;
  spoken = λ next h. record {
    differ = differ_filter (λ t. t.thread) (λ t. not (t.of == n)) s.devices.timers h.differ;
    given = numbers_filter (λ t. t.thread) (λ t. not (t.of == n)) (λ m. m < next) s.devices.timers h.given;
  };
  askers_live = λ is h. h;
  speakers_live = λ is h. each_filter (λ t. IsLive is t.of) (λ t. not (t.of == n)) s.devices.timers h;
}

pub emptied_calm : (n : ℕ) (s : Scene) → IfGoes (bubble_emptied n s) (Calm s)
emptied_calm n s = updated_calm n (instance_at n s.targets).bubble.kind [] s

emptied_by : (b : Bool) (n : ℕ) (s : Scene) → IfGoes (if b then bubble_emptied n s else Goes s) (Calm s)
emptied_by true n s = emptied_calm n s
emptied_by false n s = calm_same s

pub taken_calm : (b : Bool) (n : ℕ) (s : Scene) → IfGoes (first_taken b n s) (Calm s)
taken_calm b n s = goes_then (if b then bubble_emptied n s else Goes s) _ (Calm s) (Calm s) (emptied_by b n s)
    (λ v h. goes_weaker (question_shown v.devices.questions v) (Calm v) (Calm s) (λ u g. calm_then s v u h g) (shown_calm v.devices.questions v))

dropped_by : (b : Bool) (n : ℕ) (s : Scene) → IfGoes (if b then first_taken true n (without_questions n s) else Goes (without_questions n s)) (Fewer s)
dropped_by true n s = goes_weaker (first_taken true n (without_questions n s)) (Calm (without_questions n s)) (Fewer s)
    (λ u h. fewer_then s (without_questions n s) u (fewer_questions n s) (fewer_calm (without_questions n s) u h)) (taken_calm true n (without_questions n s))
dropped_by false n s = fewer_questions n s

pub dropped_fewer : (n : ℕ) (s : Scene) → IfGoes (questions_dropped n s) (Fewer s)
dropped_fewer n s = dropped_by (is_first_of n s.devices.questions) n s

-- those of an instance that is gone

out_by : (c : Bool) (P : ℕ → Type 0) (m n : ℕ) → (m == n) ≡ c → not c ≡ true → ((m ≡ n → ⊥) → P m) → P m
out_by true P m n e f g = absurd (cc f)
out_by false P m n e f g = g (λ same. clash (m == n) (equal_true m n same) e)

module _ {A : Type 0} (number : A → ℕ) (n : ℕ) (P Q : ℕ → Type 0) (other : (m : ℕ) → (m ≡ n → ⊥) → P m → Q m) where
  out_if : (c : Bool) (x : A) (xs : List A) → not (number x == n) ≡ c → P (number x) → Each (λ y. Q (number y)) xs → Each (λ y. Q (number y)) (cond c (x ∷ xs) xs)
  out_if true x xs e h g = (out_by (number x == n) Q (number x) n refl e (λ ne. other (number x) ne h), g)
  out_if false x xs e h g = g

  pub each_out : (xs : List A) → Each (λ x. P (number x)) xs → Each (λ x. Q (number x)) (filter (λ x. not (number x == n)) xs)
  each_out [] h = tt
  each_out (x ∷ xs) h = out_if (not (number x == n)) x (filter (λ y. not (number y == n)) xs) refl h.0 (each_out xs h.1)

pub record Gone (n : ℕ) (s t : Scene) : Type 0 where
  pub fewer : Fewer s t
  pub askers_out : (is js : List Instance) → ((m : ℕ) → (m ≡ n → ⊥) → IsLive is m → IsLive js m) → AskersLive is s.devices → AskersLive js t.devices

gone_by : (b : Bool) (n : ℕ) (s : Scene) → IfGoes (if b then first_taken true n (without_questions n s) else Goes (without_questions n s)) (Gone n s)
gone_by true n s = goes_weaker (first_taken true n (without_questions n s)) (Calm (without_questions n s)) (Gone n s)
    (λ u h. record {
      fewer = fewer_then s (without_questions n s) u (fewer_questions n s) (fewer_calm (without_questions n s) u h);
      askers_out = λ is js other k. h.quiet.2 js (each_out (λ q. q.of) n (IsLive is) (IsLive js) other s.devices.questions k);
    }) (taken_calm true n (without_questions n s))
gone_by false n s = record { fewer = fewer_questions n s; askers_out = λ is js other k. each_out (λ q. q.of) n (IsLive is) (IsLive js) other s.devices.questions k }

pub dropped_gone : (n : ℕ) (s : Scene) → IfGoes (questions_dropped n s) (Gone n s)
dropped_gone n s = gone_by (is_first_of n s.devices.questions) n s

-- Threads that are ended

module _ (P Q : Task → Type 0) (n : ℕ) (spared : Option Which) where
  both : (a b : Bool) → (a && b) ≡ true → a ≡ true
  both true b h = refl
  both false b h = absurd (cc h)

  ended_by : (c : Bool) (t : Task) → (c ≡ true → Q (finish t)) → (c ≡ false → Q t) → Q (if c then finish t else t)
  ended_by true t f g = f refl
  ended_by false t f g = g refl

  pub each_ended : ((j : ℕ) (t : Task) → P t → (t.of == n && not (is_spared spared j)) ≡ false → Q t) → ((t : Task) → t.of ≡ n → Q (finish t)) → (j : ℕ) (ts : List Task) → Each P ts → Each Q (finished_from tasks spared n j ts)
  each_ended keep end j [] h = tt
  each_ended keep end j (t ∷ ts) h = (
    ended_by (t.of == n && not (is_spared spared j)) t (λ e. end t (equal t.of n (both (t.of == n) (not (is_spared spared j)) e))) (λ e. keep j t h.0 e),
    each_ended keep end (suc j) ts h.1,
  )

  serial_by : (c : Bool) (t : Task) → (if c then finish t else t).serial ≡ t.serial
  serial_by true t = refl
  serial_by false t = refl

  pub ended_serials : (j : ℕ) (ts : List Task) → serials (finished_from tasks spared n j ts) ≡ serials ts
  ended_serials j [] = refl
  ended_serials j (t ∷ ts) = ap (λ m. m ∷ serials (finished_from tasks spared n (suc j) ts)) (serial_by (t.of == n && not (is_spared spared j)) t) ∙ ap (λ l. t.serial ∷ l) (ended_serials (suc j) ts)

-- the thread at a slot that is spared, or of another slot
spared_by : (a : Bool) (i j : ℕ) → i ≡ j → (a && not (i == j)) ≡ false
spared_by true i j e = ap not (equal_true i j e)
spared_by false i j e = refl

get_if : (c : Bool) (t u : Task) → c ≡ false → Some (if c then u else t) ≡ Some t
get_if true t u e = absurd (cc e)
get_if false t u e = refl

get_spared : (n i : ℕ) (ts : List Task) (k j : ℕ) (t : Task) → i ≡ k + j → slice_get ts j ≡ Some t → slice_get (finished_from tasks (Some (Slot i)) n k ts) j ≡ Some t
get_spared n i [] k j t e h = absurd (cc h)
get_spared n i (x ∷ ts) k zero t e h = get_if (x.of == n && not (i == k)) x (finish x) (spared_by (x.of == n) i k (omega (arith, e))) ∙ h
get_spared n i (x ∷ ts) k (suc j) t e h = get_spared n i ts (suc k) j t (omega (arith, e)) h

running_spared_by : (n i : ℕ) (list : List Task) (o : Option Task) (t : Task) → running i (record { list = list; detached = o }) ≡ Some t
    → running i (finished_of tasks (Some (place i (record { list = list; detached = o }))) n (record { list = list; detached = o })) ≡ Some t
running_spared_by n i list None t h = get_spared n i list 0 i t (omega arith) h
running_spared_by n i list (Some u) t h = h

pub running_spared : (n i : ℕ) (ts : Places Task) (t : Task) → running i ts ≡ Some t → running i (finished_of tasks (Some (place i ts)) n ts) ≡ Some t
running_spared n i ts t h = running_spared_by n i ts.list ts.detached t h

pub crew_ended : (P : Task → Type 0) (spared : Option Which) (n next : ℕ) (ts : Places Task) → ((t : Task) → P (finish t)) → Crew P next ts → Crew P next (finished_of tasks spared n ts)
crew_ended P spared n next ts end c = record {
  listed = each_ended P P n spared (λ j t h e. h) (λ t e. end t) 0 ts.list c.listed;
  detached = c.detached;
  serials = subst (λ l. Serials next (with_some ts.detached l)) (sym (ended_serials P P n spared 0 ts.list)) c.serials;
}

-- the running thread where all of its instance are ended
pub record Still (n i : ℕ) (ts us : Places Task) (t : Task) : Type 0 where
  pub u : Task
  pub runs : running i us ≡ Some u
  pub serial : u.serial ≡ t.serial

some : (a b : Task) → Some a ≡ Some b → a ≡ b
some a b h = cc

serial_of : (c : Bool) (t : Task) → (if c then finish t else t).serial ≡ t.serial
serial_of true t = refl
serial_of false t = refl

get_ended : (n : ℕ) (ts : List Task) (k j : ℕ) (t : Task) → slice_get ts j ≡ Some t → (u : Task) × (slice_get (finished_from tasks None n k ts) j ≡ Some u) × (u.serial ≡ t.serial)
get_ended n [] k j t h = absurd (cc h)
get_ended n (x ∷ ts) k zero t h = (if x.of == n && true then finish x else x, refl, serial_of (x.of == n && true) x ∙ ap (λ z. z.serial) (some x t h))
get_ended n (x ∷ ts) k (suc j) t h = get_ended n ts (suc k) j t h

still_by : (n i : ℕ) (list : List Task) (o : Option Task) (t : Task) → running i (record { list = list; detached = o }) ≡ Some t
    → Still n i (record { list = list; detached = o }) (finished_of tasks None n (record { list = list; detached = o })) t
still_by n i list None t h = let g = get_ended n list 0 i t h in record { u = g.0; runs = g.1; serial = g.2 }
still_by n i list (Some d) t h = record { u = t; runs = h; serial = refl }

pub still : (n i : ℕ) (ts : Places Task) (t : Task) → running i ts ≡ Some t → Still n i ts (finished_of tasks None n ts) t
still n i ts t h = still_by n i ts.list ts.detached t h
