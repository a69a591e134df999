-- The world while a thread runs, and the running thread moved.
use Rattle.std.proofs.Common.{arith, ◌≡◌, ℕ, zero, suc, Bool, true, false, List, [], ◌∷◌, ◌++◌, Option, Some, None, inl, inr, ◌⊎◌, refl, sym, ap, ◌∙◌, subst}
use Rattle.std.specs.Prelude.{◌<◌, slice_get, slice_set, ◌≤◌, ◌+◌}
use Rattle.machine_spec.specs.declared.threads.Context.{Context}
use Rattle.machine_spec.specs.declared.threads.Context.TheVariants.{Asked, Spoken}
use Rattle.machine_spec.specs.declared.threads.Control.{Control}
use Rattle.machine_spec.specs.declared.threads.Control.TheVariants.{Promise}
use Rattle.machine_spec.specs.declared.threads.Report.{Report}
use Rattle.machine_spec.specs.declared.threads.Report.TheVariants.{Go, Uncovered, Yielded, Ticked, Waits, Ended}
use Rattle.machine_spec.specs.declared.threads.Which.TheVariants.{Slot}
use Rattle.machine_spec.specs.Program.{Program, Head, hat_block, scripts_at}
use Rattle.machine_spec.specs.Pending.{Item, Position, gone}
use Rattle.machine_spec.specs.Legal.{StatusFits, waits_for_promise}
use Rattle.machine_spec.specs.Places.{Places, put_some, running, on_running}
use Rattle.machine_spec.specs.declared.instance.Instance.{Instance}
use Rattle.machine_spec.specs.Stores.{Devices}
use Rattle.machine_spec.specs.Tasks.{Task, depth, at_position, status_after}
use Rattle.machine_spec.specs.World.{World}
use Rattle.machine_spec.specs.Step.{Moment, moved}
use Rattle.machine_spec.specs.Outcome.{most_levels}
use Rattle.laws_of_threads.proofs.Depths.{all_depths, all_moved}
pub use Rattle.laws_of_threads.specs.Frames.{IsAtWork}
use Rattle.laws_of_threads.specs.Lists.{Member, Excused}
use Rattle.laws_of_threads.specs.Instances.{Hosts}
use Rattle.laws_of_threads.specs.Promises.{IsLive, AskersLive, SpeakersLive, Serials, askers, speakers}
use Rattle.laws_of_threads.specs.Positions.{Sits}
use Rattle.laws_of_threads.specs.Threads.{Holds, is_asked, is_spoken}
use Rattle.laws_of_threads.specs.Worlds.{IsSound}
use Rattle.laws_of_threads.proofs.Numbers.{each_append, member_last, differ_last}
use Rattle.laws_of_threads.proofs.Crews.{Crew, crew_moved}
use Rattle.laws_of_threads.proofs.RowFits.{Quiet, Noted}

-- every thread is legal or done
pub record Moving (p : Program) (w : World Task) : Type 0 where
  pub sound : IsSound p w
  pub crew : Crew (IsAtWork p w) w.next_thread w.threads
  pub few : all_depths w.threads ≤ most_levels

-- every thread but the one of this serial
pub record Other (p : Program) (n : ℕ) (w : World Task) : Type 0 where
  pub sound : IsSound p w
  pub crew : Crew (Excused (λ t. t.serial) n (IsAtWork p w)) w.next_thread w.threads
  pub few : all_depths w.threads ≤ most_levels

-- whose thread it is, apart from what it does
pub record Owner (p : Program) (w : World Task) (t : Task) : Type 0 where
  pub target : ℕ
  pub hosted : Hosts t.of target w.targets
  pub head : Head
  pub heads : Holds head (scripts_at target p).heads
  pub hat : hat_block head ≡ t.hat

-- a thread that goes on waits for no promise
abbrev pub goes_further : Report → Bool
goes_further Go = true
goes_further Uncovered = true
goes_further Yielded = true
goes_further Ticked = false
goes_further Waits = false
goes_further Ended = false

abbrev pub FreeAt : ℕ → World Task → Report → Type 0
FreeAt i w r = (u : Task) → running i w.threads ≡ Some u → goes_further r ≡ true → waits_for_promise u.items ≡ false

pub record After (p : Program) (i : ℕ) (m : Moment (World Task)) : Type 0 where
  pub moving : Moving p m.world
  pub free : FreeAt i m.world m.report

same_some : {A : Type 0} (a b : A) → Some a ≡ Some b → a ≡ b
same_some a b h = cc

set_get : (ts : List Task) (i : ℕ) (t y : Task) → slice_get ts i ≡ Some t → slice_get (slice_set ts i y) i ≡ Some y
set_get [] i t y e = absurd (cc e)
set_get (x ∷ ts) zero t y e = refl
set_get (x ∷ ts) (suc i) t y e = set_get ts i t y e

running_by : (i : ℕ) (list : List Task) (o : Option Task) (t : Task) (f : Task → Task) → running i (record { list = list; detached = o }) ≡ Some t
    → running i (on_running f i (record { list = list; detached = o })) ≡ Some (f t)
running_by i list None t f e = subst (λ m. running i (put_some m f (Slot i) (record { list = list; detached = None })) ≡ Some (f t)) (sym e) (set_get list i t (f t) e)
running_by i list (Some u) t f e = ap (λ z. Some (f z)) (same_some u t e)

pub running_moved : (i : ℕ) (ts : Places Task) (t : Task) (f : Task → Task) → running i ts ≡ Some t → running i (on_running f i ts) ≡ Some (f t)
running_moved i ts t f e = running_by i ts.list ts.detached t f e

free_by : (r : Report) (items : List Item) → StatusFits (status_after r) items → goes_further r ≡ true → waits_for_promise items ≡ false
free_by Go items h e = h
free_by Uncovered items h e = h
free_by Yielded items h e = h
free_by Ticked items h e = absurd (cc e)
free_by Waits items h e = absurd (cc e)
free_by Ended items h e = absurd (cc e)

pub done_gone : (p : Program) (w : World Task) (t : Task) → IsAtWork p w (at_position gone t)
done_gone p w t = inl (refl, refl)

-- the running thread at a legal position
pub moved_after : (p : Program) (i : ℕ) (t : Task) (x : Position) (w : World Task) → running i w.threads ≡ Some t → Other p t.serial w → (o : Owner p w t) → Sits p o.head.script w.devices.clock w.next_thread x
    → (Member t.serial (askers w.devices) → is_asked x.items ≡ true) → (Member t.serial (speakers w.devices) → is_spoken x.items ≡ true) → all_depths (on_running (at_position x) i w.threads) ≤ most_levels → After p i (moved i x w)
moved_after p i t x w run other o sits asked spoken few = record {
  moving = record {
    sound = record { inhabited = other.sound.inhabited; asking = other.sound.asking; speaking = other.sound.speaking; askers_live = other.sound.askers_live; speakers_live = other.sound.speakers_live };
    crew = crew_moved (IsAtWork p w) w.next_thread i w.threads t (at_position x) run refl other.crew (inr (record {
      target = o.target;
      hosted = o.hosted;
      head = o.head;
      heads = o.heads;
      hat = o.hat;
      legal = sits.legal;
      status = sits.status;
      kept = sits.kept;
      asked = asked;
      spoken = spoken;
    }));
    few = few;
  };
  free = λ u e g. let s : at_position x t ≡ u = same_some (at_position x t) u (sym (running_moved i w.threads t (at_position x) run) ∙ e) in
      subst (λ z. waits_for_promise z.items ≡ false) s (free_by x.report x.items sits.status g);
}

-- the running thread with nothing more to do
pub gone_after : (p : Program) (i : ℕ) (t : Task) (w : World Task) → running i w.threads ≡ Some t → Other p t.serial w → After p i (moved i gone w)
gone_after p i t w run other = record {
  moving = record {
    sound = record { inhabited = other.sound.inhabited; asking = other.sound.asking; speaking = other.sound.speaking; askers_live = other.sound.askers_live; speakers_live = other.sound.speakers_live };
    crew = crew_moved (IsAtWork p w) w.next_thread i w.threads t (at_position gone) run refl other.crew (done_gone p w t);
    few = (let m : all_depths (on_running (at_position gone) i w.threads) + depth t ≡ all_depths w.threads + 0 = all_moved i w.threads t (at_position gone) run in let f = other.few in omega (arith, m, f));
  };
  free = λ u e g. absurd (cc g);
}

-- Who is named after a row

pub record Names (here n : ℕ) (d e : Devices) : Type 0 where
  pub asking : (m : ℕ) → Member m (askers e) → Member m (askers d) ⊎ (n ≡ m)
  pub speaking : (m : ℕ) → Member m (speakers e) → Member m (speakers d) ⊎ (n ≡ m)
  pub asked : (next : ℕ) → n < next → (Member n (askers d) → ⊥) → Serials next (askers d) → Serials next (askers e)
  pub spoken : (next : ℕ) → n < next → (Member n (speakers d) → ⊥) → Serials next (speakers d) → Serials next (speakers e)
  pub askers_live : (is : List Instance) → IsLive is here → AskersLive is d → AskersLive is e
  pub speakers_live : (is : List Instance) → IsLive is here → SpeakersLive is d → SpeakersLive is e

pub serials_last : (n next : ℕ) (ns : List ℕ) → n < next → (Member n ns → ⊥) → Serials next ns → Serials next (ns ++ n ∷ [])
serials_last n next ns below none s = record { differ = differ_last ns n s.differ none; given = each_append (λ m. m < next) ns (n ∷ []) s.given (below, tt) }

more_member : (n : ℕ) (xs ys : List ℕ) → ys ≡ xs ++ n ∷ [] → (m : ℕ) → Member m ys → Member m xs ⊎ (n ≡ m)
more_member n xs ys e m h = member_last m n xs (subst (Member m) e h)

same_member : (n : ℕ) (xs ys : List ℕ) → ys ≡ xs → (m : ℕ) → Member m ys → Member m xs ⊎ (n ≡ m)
same_member n xs ys e m h = inl (subst (Member m) e h)

quiet_names : (here n : ℕ) (d e : Devices) → Quiet d e → Names here n d e
quiet_names here n d e h = record {
  asking = same_member n (askers d) (askers e) h.0;
  speaking = same_member n (speakers d) (speakers e) h.1;
  asked = λ next b none s. subst (Serials next) (sym h.0) s;
  spoken = λ next b none s. subst (Serials next) (sym h.1) s;
  askers_live = λ is live k. h.2 is k;
  speakers_live = λ is live k. h.3 is k;
}

pub noted_names : (here n : ℕ) (x : Control) (c : Context) (d e : Devices) → Noted here n x c d e → Names here n d e
noted_names here n Promise Asked d e h = record {
  asking = more_member n (askers d) (askers e) h.0;
  speaking = same_member n (speakers d) (speakers e) h.1;
  asked = λ next b none s. subst (Serials next) (sym h.0) (serials_last n next (askers d) b none s);
  spoken = λ next b none s. subst (Serials next) (sym h.1) s;
  askers_live = h.2;
  speakers_live = λ is live k. h.3 is k;
}
noted_names here n Promise Spoken d e h = record {
  asking = same_member n (askers d) (askers e) h.0;
  speaking = more_member n (speakers d) (speakers e) h.1;
  asked = λ next b none s. subst (Serials next) (sym h.0) s;
  spoken = λ next b none s. subst (Serials next) (sym h.1) (serials_last n next (speakers d) b none s);
  askers_live = λ is live k. h.2 is k;
  speakers_live = h.3;
}
noted_names here n x c d e h = quiet_names here n d e h

-- who is named among the running thread's own promises after its row
abbrev pub Unnamed : ℕ → Control → Context → Devices → Type 0
Unnamed n Promise Asked d = Member n (speakers d) → ⊥
Unnamed n Promise Spoken d = Member n (askers d) → ⊥
Unnamed n _ _ d = (Member n (askers d) → ⊥) × (Member n (speakers d) → ⊥)

pub noted_unnamed : (here n : ℕ) (x : Control) (c : Context) (d e : Devices) → (Member n (askers d) → ⊥) → (Member n (speakers d) → ⊥) → Noted here n x c d e → Unnamed n x c e
noted_unnamed here n Promise Asked d e a s h = λ m. s (subst (Member n) h.1 m)
noted_unnamed here n Promise Spoken d e a s h = λ m. a (subst (Member n) h.0 m)
noted_unnamed here n x c d e a s h = ((λ m. a (subst (Member n) h.0 m)), (λ m. s (subst (Member n) h.1 m)))
