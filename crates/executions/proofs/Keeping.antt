-- What a run keeps where it changes in ways that leave it kept.
use Rattle.std.proofs.Common.{◌≡◌, ◌<◌, ◌^◌, false, Some, sym, ap, ◌∙◌, subst, arith}
use Rattle.std.specs.Prelude.{All}
use Rattle.std.proofs.lemmas.List.Elements.{All-nil}
use Rattle.machine_spec.specs.Threads.{is_done}
use Rattle.machine_spec.specs.declared.threads.Which.{Which}
use Rattle.machine_spec.specs.Places.{Places, at_place, put, Everyone}
use Rattle.project_check.specs.declared.project.Project.{Project}
use Rattle.targets.specs.Live.{IsLive, IsSameCast, HasOneEach}
use Rattle.variables.specs.Held.{HasNoStore}
use Rattle.thread_frames.specs.Fit.{Fits}
use Rattle.thread_frames.specs.Threads.{Thread, no_threads}
use Rattle.executions.specs.declared.state.State.{State}
use Rattle.executions.specs.Seen.{sheets}
use Rattle.executions.specs.Ready.{AllFit, HasSameTargets, ArePeopled, HasNoneFrom, IsOfLive, IsKept}
use Rattle.executions.proofs.Crew.{live-targets, one_each-cast}
use Rattle.executions.specs.Resting.{IsResting, IsIdle}
use Rattle.executions.specs.Rows.{Leaves}
use Rattle.executions.proofs.Living.{living_live}
use Rattle.executions.proofs.People.{people_same}
use Rattle.machine_spec.proofs.Placing.{everyone_at, everyone_put}

-- Threads

module _ {R : Type 0} (p : Project) (s : State R) (kept : IsKept p s) where
  pub kept_threads : (ts : Places Thread) → Everyone (Fits (sheets p)) ts → Everyone (IsOfLive s.targets) ts → IsKept p (record s { threads = ts })
  kept_threads ts fits living = record { threads = record { all = fits }; few = kept.few; people = kept.people; living = living; free = kept.free }

  -- one thread changed, which is of the same instance, and is not done where it was done before
  pub kept_put : (which : Which) (before after : Thread) → at_place which s.threads ≡ Some before → Fits (sheets p) after → after.of ≡ before.of → (is_done after.status ≡ false → is_done before.status ≡ false)
      → (ts : Places Thread) → ts ≡ put which after s.threads → IsKept p (record s { threads = ts })
  kept_put which before after found fits of alive ts put_is =
      let was : IsOfLive s.targets before = everyone_at (IsOfLive s.targets) which s.threads before kept.living found in
      kept_threads ts (subst (Everyone (Fits (sheets p))) (sym put_is) (everyone_put (Fits (sheets p)) which s.threads after kept.threads.all fits))
      (subst (Everyone (IsOfLive s.targets)) (sym put_is) (everyone_put (IsOfLive s.targets) which s.threads after kept.living (λ e. subst (λ n. IsLive n s.targets) (sym of) (was (alive e)))))

  -- the instance of a thread that is not done is live
  pub kept_here : (which : Which) (t : Thread) → at_place which s.threads ≡ Some t → is_done t.status ≡ false → IsLive t.of s.targets
  kept_here which t found alive = everyone_at (IsOfLive s.targets) which s.threads t kept.living found alive

-- where there is none
pub none_idle : {R : Type 0} (p : Project) (s : State R) → s.threads ≡ no_threads → s.next_thread < 2 ^ 62 → ArePeopled p s.next_instance s.targets → HasNoneFrom s.next_instance s.variables → IsIdle p s
none_idle p s none few people free = record {
  resting = record {
    kept = record {
      threads = record { all = subst (Everyone (Fits (sheets p))) (sym none) (record { listed = All-nil (Fits (sheets p)); detached = tt }) };
      few = few;
      people = people;
      living = subst (Everyone (IsOfLive s.targets)) (sym none) (record { listed = All-nil (IsOfLive s.targets); detached = tt });
      free = free;
    };
    alone = ap (λ (ts : Places Thread). ts.detached) none;
  };
  alive = subst (λ (ts : Places Thread). All (λ t. is_done t.status ≡ false) ts.list) (sym none) (All-nil (λ (t : Thread). is_done t.status ≡ false));
}

-- All else

module _ {R : Type 0} (p : Project) (s t : State R) where
  pub kept_leaves : IsKept p s → Leaves s t → IsKept p t
  kept_leaves kept left = record {
    threads = subst (AllFit p) (sym left.threads) kept.threads;
    few = omega (arith, kept.few, left.next_thread);
    people = subst (λ n. ArePeopled p n t.targets) (sym left.next_instance) (people_same p s.next_instance s.targets kept.people t.targets left.targets (left.one_each kept.people.one_each));
    living = subst (Everyone (IsOfLive t.targets)) (sym left.threads) (living_live s.targets t.targets s.threads (live-targets s.targets t.targets left.targets) kept.living);
    free = subst (λ n. HasNoneFrom n t.variables) (sym left.next_instance) (λ n le. left.free n (kept.free n le));
  }

  -- instances, devices, words, the frame and requests to redraw
  module _ (same : t.threads ≡ s.threads) (next : t.next_thread ≡ s.next_thread) (next_instance : t.next_instance ≡ s.next_instance) (held : t.variables ≡ s.variables) where
    -- where the same instances are live, each of the same target and the only one of its number
    pub kept_same : IsKept p s → HasSameTargets s.targets t.targets → (HasOneEach s.targets → HasOneEach t.targets) → IsKept p t
    kept_same kept targets one_each =
        kept_leaves kept (record { threads = same; next_thread = next; next_instance = next_instance; targets = targets; one_each = one_each; free = λ n e. subst (HasNoStore n) (sym held) e })

    pub resting_same : IsResting p s → HasSameTargets s.targets t.targets → (HasOneEach s.targets → HasOneEach t.targets) → IsResting p t
    resting_same resting targets one_each = record { kept = kept_same resting.kept targets one_each; alone = ap (λ (ts : Places Thread). ts.detached) same ∙ resting.alone }

    pub idle_same : IsIdle p s → HasSameTargets s.targets t.targets → (HasOneEach s.targets → HasOneEach t.targets) → IsIdle p t
    idle_same idle targets one_each = record {
      resting = resting_same idle.resting targets one_each;
      alive = subst (λ (ts : Places Thread). All (λ u. is_done u.status ≡ false) ts.list) (sym same) idle.alive;
    }

    -- where they are in the same order
    pub kept_cast : IsKept p s → IsSameCast s.targets t.targets → IsKept p t
    kept_cast kept cast = kept_same kept cast.targets (one_each-cast s.targets t.targets cast)

    pub resting_cast : IsResting p s → IsSameCast s.targets t.targets → IsResting p t
    resting_cast resting cast = resting_same resting cast.targets (one_each-cast s.targets t.targets cast)

    pub idle_cast : IsIdle p s → IsSameCast s.targets t.targets → IsIdle p t
    idle_cast idle cast = idle_same idle cast.targets (one_each-cast s.targets t.targets cast)
