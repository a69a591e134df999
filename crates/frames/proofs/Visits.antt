-- A thread is woken, has its turn, and is not detached afterwards.
use Rattle.std.proofs.Common.{◌≡◌, ℕ, Bool, Option, Some, None, Err, refl, sym, ap, ◌∙◌, subst}
use Rattle.std.specs.Option.{option_map}
use Rattle.rand_core.specs.Stream.{Stream}
use Rattle.script_words.specs.declared.stops.Stop.{Stop}
use Rattle.machine_spec.specs.declared.threads.Which.{Which}
use Rattle.machine_spec.specs.declared.threads.Which.TheVariants.{Slot}
use Rattle.machine_spec.specs.declared.threads.Status.TheVariants.{Running}
use Rattle.machine_spec.specs.Places.{Places, at_place, place, put, put_some, on_place, running, shown_by, Everyone}
use Rattle.machine_spec.specs.Outcome.{Outcome, Goes, then_do, StopIs}
use Rattle.machine_spec.specs.Slice as machine
use Rattle.machine_spec.specs.Slice.{turn, visit, woken, Passed}
use Rattle.machine_spec.specs.Tasks.{Task}
use Rattle.machine_spec.specs.World.{World}
use Rattle.project_spec.specs.Trees.{Sheet}
use Rattle.thread_frames.specs.Fit.{Fits}
use Rattle.thread_frames.specs.Reading.{task}
use Rattle.thread_frames.specs.Threads.{Thread, with_status, without_detached}
use Rattle.project_check.specs.declared.project.Project.{Project}
use Rattle.project_check.specs.Loaded.{program_of}
use Rattle.executions.specs.declared.state.State.{State}
use Rattle.executions.specs.Ready.{IsOfLive, IsKept}
use Rattle.executions.specs.Seen.{sheets, seen, seen_threads}
use Rattle.executions.proofs.Keeping.{kept_put, kept_threads}
use Rattle.machine_spec.proofs.Placing.{put_at, put_seen, at_seen, on_is, everyone_at, running_seen}
use Rattle.executions.proofs.Stops.{stop-then, stop-same}
use Rattle.executions.specs.Resting.{IsResting}
use Rattle.frames.specs.Turns.{IsAlive, CanTurn, is_active}

-- a change of a thread is seen
on_some_seen : {A B : Type 0} (f : A → B) (g : B → B) (h : A → A) → ((t : A) → g (f t) ≡ f (h t)) → (which : Which) (ts : Places A) (o : Option A) → put_some (option_map f o) g which (shown_by f ts) ≡ shown_by f (put_some o h which ts)
on_some_seen f g h same which ts None = refl
on_some_seen f g h same which ts (Some t) = ap (λ x. put which x (shown_by f ts)) (same t) ∙ sym (put_seen f which (h t) ts)

pub on_place_seen : {A B : Type 0} (f : A → B) (g : B → B) (h : A → A) → ((t : A) → g (f t) ≡ f (h t)) → (which : Which) (ts : Places A) → on_place g which (shown_by f ts) ≡ shown_by f (on_place h which ts)
on_place_seen f g h same which ts = ap (λ o. put_some o g which (shown_by f ts)) (at_seen f which ts) ∙ on_some_seen f g h same which ts (at_place which ts)

active_of : (s : ℕ → Sheet) (o : Option Thread) → machine.is_active (option_map (task s) o) ≡ is_active o
active_of s None = refl
active_of s (Some t) = refl

active_seen : (p : Project) (i : ℕ) (ts : Places Thread) → machine.is_active (running i (seen_threads p ts)) ≡ is_active (running i ts)
active_seen p i ts = ap machine.is_active (running_seen (task (sheets p)) i ts) ∙ active_of (sheets p) (running i ts)

module _ {R : Type 0} (stream : R → Stream) (p : Project) (budget i : ℕ) (w : State R) (resting : IsResting p w) (alive : IsAlive i w.threads) (ts : Places Thread) (woke : ts ≡ on_place (with_status Running) (Slot i) w.threads) where
  abbrev mid : State R
  mid = record w { threads = ts }

  abbrev thread : Thread
  thread = with_status Running alive.thread

  new_is : ts ≡ put (Slot i) thread w.threads
  new_is = on_is (with_status Running) (Slot i) w.threads ts alive.thread alive.found woke

  fits : Fits (sheets p) thread
  fits =
      let before = everyone_at (Fits (sheets p)) (Slot i) w.threads alive.thread resting.kept.threads.all alive.found in
      record { done = λ e. absurd (cc e); open_levels = λ e. before.open_levels alive.alive }

  alone : ts.detached ≡ None
  alone = ap (λ z. z.detached) new_is ∙ resting.alone

  found : running i ts ≡ Some thread
  found = ap (λ o. at_place (place i (record { list = ts.list; detached = o })) ts) alone ∙ ap (at_place (Slot i)) new_is ∙ put_at (Slot i) w.threads alive.thread thread alive.found

  pub can_turn : CanTurn p i mid
  can_turn = record { thread = thread; found = found; alive = refl; kept = kept_put p w resting.kept (Slot i) alive.thread thread alive.found fits refl (λ e. alive.alive) ts new_is }

  woken_is : woken i (seen stream p w) ≡ seen stream p mid
  woken_is =
      ap (λ z. record (seen stream p w) { threads = z })
      (on_place_seen (task (sheets p)) (λ t. record t { status = Running }) (with_status Running) (λ t. refl) (Slot i) w.threads ∙ ap (seen_threads p) (sym woke))

  abbrev rest : World Task → Outcome Passed
  rest v = Goes (record { world = machine.without_detached v; active = machine.is_active (running i v.threads) })

  visit_is : visit (program_of p) budget i (seen stream p w) ≡ then_do (turn (program_of p) budget i (seen stream p mid)) rest
  visit_is = ap (λ v. then_do (turn (program_of p) budget i v) rest) woken_is

  pub visit_stops : (T U : Type 0) (stop : Stop) → StopIs {T = T} (Err stop) (turn (program_of p) budget i (seen stream p mid)) → StopIs {T = U} (Err stop) (visit (program_of p) budget i (seen stream p w))
  visit_stops T U stop h = stop-same U U stop _ _ visit_is (stop-then T U stop _ rest h)

  module _ (after : State R) (new : Places Thread) (dropped : new ≡ without_detached after.threads) where
    pub visit_goes : (active : Bool) → turn (program_of p) budget i (seen stream p mid) ≡ Goes (seen stream p after) → active ≡ is_active (running i after.threads) → visit (program_of p) budget i (seen stream p w) ≡ Goes (record { world = seen stream p (record after { threads = new }); active = active })
    visit_goes active turned active_is =
        visit_is ∙ ap (λ o. then_do o rest) turned
        ∙ ap (λ b. Goes (record { world = machine.without_detached (seen stream p after); active = b })) (active_seen p i after.threads ∙ sym active_is)
        ∙ ap (λ z. Goes (record { world = seen stream p (record after { threads = z }); active = active })) (sym dropped)

    pub visit_kept : IsKept p after → IsResting p (record after { threads = new })
    visit_kept kept = record {
      kept =
          kept_threads p after kept new (subst (Everyone (Fits (sheets p))) (sym dropped) (record { listed = kept.threads.all.listed; detached = tt }))
          (subst (Everyone (IsOfLive after.targets)) (sym dropped) (record { listed = kept.living.listed; detached = tt }));
      alone = ap (λ z. z.detached) dropped;
    }
