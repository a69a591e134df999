-- A thread that goes on is seen to, and the run keeps what it kept.
use Rattle.std.proofs.Common.{◌≡◌, ℕ, ◌==◌, Bool, false, List, map, position, Option, Some, None, refl, sym, ap, ◌∙◌, subst}
use Rattle.std.specs.Prelude.{slice_get}
use Rattle.std.specs.List.{All}
use Rattle.std.specs.Option.{option_map}
use Rattle.std.proofs.lemmas.Option.{slice_get-map}
use Rattle.rand_core.specs.Stream.{Stream}
use Rattle.machine_spec.specs.Lists.{set_some, changed_at_some, first_changed}
use Rattle.machine_spec.specs.declared.threads.Which.TheVariants.{Slot}
use Rattle.machine_spec.specs.Places.{Places, put, on_place}
use Rattle.machine_spec.specs.Tasks.{Task, resumed_task, resumed}
use Rattle.machine_spec.specs.Threads.{is_done}
use Rattle.machine_spec.specs.declared.threads.Status.TheVariants.{Running}
use Rattle.project_check.specs.declared.project.Project.{Project}
use Rattle.variables.proofs.Places.{position-map}
use Rattle.thread_frames.specs.Fit.{Fits, IsAtRest}
use Rattle.thread_frames.specs.Reading.{task}
use Rattle.thread_frames.specs.Threads.{Thread, on_levels, levels_of, with_status}
use Rattle.thread_moves.specs.Moves.{OnlyLevels}
use Rattle.thread_moves.specs.Resuming.{IsResumed}
use Rattle.executions.specs.declared.state.State.{State}
use Rattle.executions.specs.Seen.{sheets, seen, seen_threads}
use Rattle.executions.specs.Ready.{AllFit}
use Rattle.machine_spec.proofs.Placing.{on_is, on_twice, put_seen, everyone_at, everyone_put}
use Rattle.executions.specs.Resting.{IsIdle}
use Rattle.executions.proofs.Keeping.{kept_put}
use Rattle.frames.specs.Resuming.{running_with, IsResumedAt}

-- The levels of a thread are moved, and it is running

module _ (p : Project) (slot : ℕ) (old : Places Thread) (t : Thread) (found : slice_get old.list slot ≡ Some t) (fits : AllFit p old) (alive : All (λ x. is_done x.status ≡ false) old.list) where
  is_alive : is_done t.status ≡ false
  is_alive = everyone_at (λ x. is_done x.status ≡ false) (Slot slot) (record { list = old.list; detached = None }) t (record { listed = alive; detached = tt }) found

  pub at_rest : (target : ℕ) → target ≡ t.target → IsAtRest (sheets p target) (levels_of (slice_get old.list slot))
  at_rest target same =
      subst (λ n. IsAtRest (sheets p n) (levels_of (slice_get old.list slot))) (sym same)
      (subst (λ o. IsAtRest (sheets p t.target) (levels_of o)) (sym found) ((everyone_at (Fits (sheets p)) (Slot slot) old t fits.all found).open_levels is_alive))

  pub went_on : (mid new : Places Thread) → IsResumed (sheets p t.target) (levels_of (slice_get old.list slot)) (levels_of (slice_get mid.list slot)) → OnlyLevels (Slot slot) old mid → new ≡ on_place (with_status Running) (Slot slot) mid → IsResumedAt p slot old new
  went_on mid new res only f = record {
    before = t;
    found = found;
    levels = levels_of (slice_get mid.list slot);
    new_is = on_is (running_with (levels_of (slice_get mid.list slot))) (Slot slot) old new t found
        (on_twice (on_levels (λ ls. levels_of (slice_get mid.list slot))) (with_status Running) (Slot slot) old mid new only f);
    resumed = subst (λ o. IsResumed (sheets p t.target) (levels_of o) (levels_of (slice_get mid.list slot))) found res;
  }

-- What is seen of it

changed_none : {A : Type 0} (test : A → Bool) (f : A → A) (xs : List A) → position test xs ≡ None → first_changed test f xs ≡ xs
changed_none test f xs e = ap (λ o. changed_at_some f o xs) e

changed_some : {A : Type 0} (test : A → Bool) (f : A → A) (xs : List A) (k : ℕ) (x : A) → position test xs ≡ Some k → slice_get xs k ≡ Some x → first_changed test f xs ≡ (put (Slot k) (f x) (record { list = xs; detached = None })).list
changed_some test f xs k x e h = ap (λ o. changed_at_some f o xs) e ∙ ap (λ o. set_some o f k xs) h

module _ {R : Type 0} (stream : R → Stream) (p : Project) (w : State R) (serial : ℕ) where
  among : (o : Option ℕ) → o ≡ position (λ (t : Thread). t.serial == serial) w.threads.list → position (λ (t : Task). t.serial == serial) (map (task (sheets p)) w.threads.list) ≡ o
  among o e = position-map (λ (t : Task). t.serial == serial) (task (sheets p)) w.threads.list ∙ sym e

  -- where none is listed all stays
  pub none_resumed : None ≡ position (λ (t : Thread). t.serial == serial) w.threads.list → seen stream p w ≡ resumed serial (seen stream p w)
  none_resumed e =
      sym (ap (λ l. record (seen stream p w) { threads = record { list = l; detached = option_map (task (sheets p)) w.threads.detached } })
      (changed_none (λ (t : Task). t.serial == serial) resumed_task (map (task (sheets p)) w.threads.list) (among None e)))

  module _ (slot : ℕ) (here : Some slot ≡ position (λ (t : Thread). t.serial == serial) w.threads.list) (ts : Places Thread) (on : IsResumedAt p slot w.threads ts) where
    stands : resumed_task (task (sheets p) on.before) ≡ task (sheets p) (running_with on.levels on.before)
    stands = λ i. record {
      serial = on.before.serial;
      of = on.before.of;
      hat = on.before.hat;
      status = Running;
      warp = sym on.resumed.warp i;
      items = sym on.resumed.items i;
    }

    pub resumed_is : seen stream p (record w { threads = ts }) ≡ resumed serial (seen stream p w)
    resumed_is =
        let xs : List Task = map (task (sheets p)) w.threads.list in
        let at : slice_get xs slot ≡ Some (task (sheets p) on.before) = slice_get-map (task (sheets p)) w.threads.list slot ∙ ap (option_map (task (sheets p))) on.found in
        ap (λ z. record (seen stream p w) { threads = seen_threads p z }) on.new_is
        ∙ ap (λ z. record (seen stream p w) { threads = z }) (put_seen (task (sheets p)) (Slot slot) (running_with on.levels on.before) w.threads)
        ∙ ap (λ x. record (seen stream p w) { threads = put (Slot slot) x (seen_threads p w.threads) }) (sym stands)
        ∙ sym (ap (λ l. record (seen stream p w) { threads = record { list = l; detached = option_map (task (sheets p)) w.threads.detached } })
        (changed_some (λ (t : Task). t.serial == serial) resumed_task xs slot (task (sheets p) on.before) (among (Some slot) here) at))

-- What is kept

module _ {R : Type 0} (p : Project) (w : State R) (slot : ℕ) (ts : Places Thread) (on : IsResumedAt p slot w.threads ts) (idle : IsIdle p w) where
  abbrev after : Thread
  after = running_with on.levels on.before

  was_alive : is_done on.before.status ≡ false
  was_alive = everyone_at (λ t. is_done t.status ≡ false) (Slot slot) (record { list = w.threads.list; detached = None }) on.before (record { listed = idle.alive; detached = tt }) on.found

  fits : Fits (sheets p) after
  fits = record { done = λ e. absurd (cc e); open_levels = λ e. on.resumed.rest }

  pub resumed_idle : IsIdle p (record w { threads = ts })
  resumed_idle = record {
    resting = record {
      kept = kept_put p w idle.resting.kept (Slot slot) on.before after on.found fits refl (λ e. was_alive) ts on.new_is;
      alone = ap (λ z. z.detached) on.new_is ∙ idle.resting.alone;
    };
    alive = subst (λ z. All (λ t. is_done t.status ≡ false) z.list) (sym on.new_is)
        (everyone_put (λ t. is_done t.status ≡ false) (Slot slot) (record { list = w.threads.list; detached = None }) after (record { listed = idle.alive; detached = tt }) refl).listed;
  }
