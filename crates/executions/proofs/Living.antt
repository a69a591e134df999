-- Threads that are not done are of live instances.
use Rattle.std.proofs.Common.{◌≡◌, ◌≢◌, ℕ, suc, Bool, true, false, ◌&&◌, cond, List, [], ◌∷◌, Option, Some, None, IsSome, refl, sym, subst}
use Rattle.std.specs.Prelude.{◌==◌, slice_get, IfSome, Contains, if◌then◌else◌}
use Rattle.std.specs.List.{All}
use Rattle.std.proofs.lemmas.Bool.{eqb-false, eq-eqb}
use Rattle.std.proofs.lemmas.List.Elements.{All-nil, All-cons, All-head, All-tail, All-weaker, All-contains}
use Rattle.machine_spec.specs.declared.instance.Instance.{Instance}
use Rattle.machine_spec.specs.declared.threads.Which.TheVariants.{Slot}
use Rattle.machine_spec.specs.Outcome.{Outcome, Goes, IfGoes}
use Rattle.machine_spec.specs.Places.{Places, place_by, place, put_some, on_place, Everyone}
use Rattle.machine_spec.specs.Starting.{Crowd, Pair, start_all, finished_from, finished_of}
use Rattle.machine_spec.specs.Stores.{live}
use Rattle.project_check.specs.declared.project.Project.{Project}
use Rattle.targets.specs.Live.{IsLive}
use Rattle.thread_frames.specs.Threads.{Thread, frames, fresh, finish}
use Rattle.hats.specs.Heads.{IsHeadOf}
use Rattle.executions.specs.Ready.{IsOfLive}
use Rattle.executions.proofs.Each.{starts_each}
use Rattle.machine_spec.proofs.Placing.{everyone_put}

-- a fact of every thread that follows from another
module _ {A : Type 0} (P Q : A → Type 0) (f : (x : A) → P x → Q x) where
  some_weaker : (o : Option A) → IfSome o P → IfSome o Q
  some_weaker None h = tt
  some_weaker (Some x) h = f x h

  pub everyone_weaker : (ts : Places A) → Everyone P ts → Everyone Q ts
  everyone_weaker ts h = record { listed = All-weaker P Q f ts.list h.listed; detached = some_weaker ts.detached h.detached }

-- where the same instances are live, and more
pub living_live : (old new : List Instance) (ts : Places Thread) → ((n : ℕ) → IsLive n old → IsLive n new) → Everyone (IsOfLive old) ts → Everyone (IsOfLive new) ts
living_live old new ts live h = everyone_weaker (IsOfLive old) (IsOfLive new) (λ t g e. live t.of (g e)) ts h

pub done_living : (is : List Instance) (t : Thread) → IsOfLive is (finish t)
done_living is t e = absurd (cc e)

-- Starting

here_live : (b : Bool) (i : Instance) (o : Option Instance) → b ≡ true → IsSome (cond b (Some i) o)
here_live true i o e = refl
here_live false i o e = absurd (cc e)

more_live : (b : Bool) (i : Instance) (o : Option Instance) → IsSome o → IsSome (cond b (Some i) o)
more_live true i o h = refl
more_live false i o h = h

all_live : (is : List Instance) → All (λ i. IsLive i.number is) is
all_live [] = All-nil (λ i. IsLive i.number [])
all_live (i ∷ is) =
    All-cons (λ j. IsLive j.number (i ∷ is)) i is (here_live (i.number == i.number) i (live i.number is) (eq-eqb i.number i.number refl))
    (All-weaker (λ j. IsLive j.number is) (λ j. IsLive j.number (i ∷ is)) (λ j h. more_live (i.number == j.number) i (live j.number is) h) is (all_live is))

-- an instance that is listed is live
pub listed_live : (is : List Instance) (i : Instance) → Contains is i → IsLive i.number is
listed_live is i h = All-contains (λ j. IsLive j.number is) is i (all_live is) h

head_living : (p : Project) (is : List Instance) (n : ℕ) (x : Pair) → IsHeadOf p is x → IsOfLive is (fresh n x.of x.head)
head_living p is n x h e = subst (λ m. IsLive m is) (sym h.number) (listed_live is h.instance h.listed)

-- a thread that is started is of a listed instance
pub started_living : (p : Project) (is : List Instance) (slot : Option ℕ) (xs : List Pair) (c d : Crowd Thread) → All (IsHeadOf p is) xs → start_all frames slot xs c ≡ Goes d → Everyone (IsOfLive is) c.threads → Everyone (IsOfLive is) d.threads
started_living p is slot xs c d heads started living =
    subst (λ (o : Outcome (Crowd Thread)). IfGoes o (λ e. Everyone (IsOfLive is) e.threads)) started (starts_each frames (IsOfLive is) (IsHeadOf p is) (head_living p is) slot xs c heads living)

-- Ending those of an instance that is taken out

module _ (old new : List Instance) (id : ℕ) (others : (n : ℕ) → n ≢ id → IsLive n old → IsLive n new) where
  gone_by : (b : Bool) (t : Thread) → (t.of == id) ≡ b → IsOfLive old t → IsOfLive new (if b && true then finish t else t)
  gone_by true t e h = done_living new t
  gone_by false t e h = λ alive. others t.of (eqb-false t.of id e) (h alive)

  gone_list : (j : ℕ) (xs : List Thread) → All (IsOfLive old) xs → All (IsOfLive new) (finished_from frames None id j xs)
  gone_list j [] h = All-nil (IsOfLive new)
  gone_list j (t ∷ ts) h =
      All-cons (IsOfLive new) (if (t.of == id) && true then finish t else t) (finished_from frames None id (suc j) ts)
      (gone_by (t.of == id) t refl (All-head (IsOfLive old) t ts h)) (gone_list (suc j) ts (All-tail (IsOfLive old) t ts h))

  finished_some : (i : ℕ) (o : Option Thread) (ts : Places Thread) → Everyone (IsOfLive new) ts → Everyone (IsOfLive new) (put_some o finish (Slot i) ts)
  finished_some i None ts h = h
  finished_some i (Some u) ts h = everyone_put (IsOfLive new) (Slot i) ts (finish u) h (done_living new u)

  gone_places : (i : ℕ) (list : List Thread) (o : Option Thread) → All (IsOfLive old) list → Everyone (IsOfLive new) (on_place finish (place_by i o) (record { list = finished_from frames None id 0 list; detached = o }))
  gone_places i list None h = finished_some i (slice_get (finished_from frames None id 0 list) i) (record { list = finished_from frames None id 0 list; detached = None }) (record { listed = gone_list 0 list h; detached = tt })
  gone_places i list (Some d) h = record { listed = gone_list 0 list h; detached = done_living new d }

  -- the running thread is done as well
  pub gone_living : (i : ℕ) (ts : Places Thread) → Everyone (IsOfLive old) ts → Everyone (IsOfLive new) (on_place finish (place i ts) (finished_of frames None id ts))
  gone_living i ts h = gone_places i ts.list ts.detached h.listed
