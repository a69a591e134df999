-- What was done with the running thread is seen in the world.
use Rattle.std.proofs.Common.{◌≡◌, ℕ, Bool, true, false, List, [], ◌∷◌, Some, refl, sym, ap, ◌∙◌, arith}
use Rattle.std.specs.Prelude.{is_some}
use Rattle.rand_core.specs.Stream.{Stream}
use Rattle.machine_spec.specs.declared.threads.Report.{Report}
use Rattle.machine_spec.specs.declared.threads.Report.TheVariants.{Go, Uncovered, Yielded, Ticked, Waits, Ended}
use Rattle.machine_spec.specs.Threads.{is_done}
use Rattle.machine_spec.specs.Pending.{Position}
use Rattle.machine_spec.specs.Places.{Places, place, put, running, on_running}
use Rattle.machine_spec.specs.Tasks.{at_position, status_after}
use Rattle.machine_spec.specs.Step.{moved}
use Rattle.project_check.specs.declared.project.Project.{Project}
use Rattle.project_spec.specs.Trees.{Sheet}
use Rattle.thread_frames.specs.declared.level.Level.{Level}
use Rattle.thread_frames.specs.Levels.{top_block}
use Rattle.thread_frames.specs.Reading.{task}
use Rattle.thread_frames.specs.Threads.{Thread}
use Rattle.thread_frames.specs.Fit.{Fits, IsReadyAt, IsAtRest}
use Rattle.thread_moves.specs.Standing.{IsAt, is_ended, IsReadyUnless as LevelsReadyUnless}
use Rattle.executions.specs.declared.state.State.{State}
use Rattle.executions.specs.Seen.{sheets, seen_threads, seen}
use Rattle.executions.specs.Ready.{IsKept, IsReadyUnless, IsAfter}
use Rattle.thread_moves.specs.Moves.{with_levels}
use Rattle.executions.proofs.Keeping.{kept_put}
use Rattle.machine_spec.proofs.Placing.{running_put, on_running_seen}

-- a report leaves a thread done where it has ended
ended_done : (r : Report) → is_done (status_after r) ≡ is_ended r
ended_done Go = refl
ended_done Uncovered = refl
ended_done Yielded = refl
ended_done Ticked = refl
ended_done Waits = refl
ended_done Ended = refl

-- levels that are ready are at rest
pub ready_rests : (sheet : Sheet) (levels : List Level) → IsReadyAt sheet levels → IsAtRest sheet levels
ready_rests sheet [] h = let none = h.holds in absurd (cc none)
ready_rests sheet (l ∷ ls) h = record { fit = h.fit; there = omega arith; single = λ none. (let some = h.holds in let e : is_some (top_block (l ∷ ls)) ≡ false = ap is_some none in absurd (cc (some, e))) }

fit_by : (b : Bool) (sheet : Sheet) (levels : List Level) → LevelsReadyUnless b sheet levels → (b ≡ true → levels ≡ []) × (b ≡ false → IsAtRest sheet levels)
fit_by true sheet levels h = (λ e. h, λ e. absurd (cc e))
fit_by false sheet levels h = (λ e. absurd (cc e), λ e. ready_rests sheet levels h)

module _ (p : Project) (t : Thread) (x : Position) (levels : List Level) (report : Report) (at : IsAt (sheets p t.target) x levels report) where
  -- the thread is seen at the position
  pub stands : at_position x (task (sheets p) t) ≡ task (sheets p) (with_levels levels report t)
  stands = λ i. record {
    serial = t.serial;
    of = t.of;
    hat = t.hat;
    status = status_after (sym at.report_is i);
    warp = sym at.warp i;
    items = sym at.items i;
  }

  pub fits : Fits (sheets p) (with_levels levels report t)
  fits =
      let by = fit_by (is_ended report) (sheets p t.target) levels at.ready in
      record {
        done = λ e. by.0 (sym (ended_done report) ∙ e);
        open_levels = λ e. by.1 (sym (ended_done report) ∙ e);
      }

  module _ (i : ℕ) (old new : Places Thread) (found : running i old ≡ Some t) (new_is : new ≡ put (place i old) (with_levels levels report t) old) where
    pub threads_moved : on_running (at_position x) i (seen_threads p old) ≡ seen_threads p new
    threads_moved = on_running_seen (task (sheets p)) (at_position x) i old t (with_levels levels report t) found stands ∙ ap (seen_threads p) (sym new_is)

    pub still_running : running i new ≡ Some (with_levels levels report t)
    still_running = ap (running i) new_is ∙ running_put i old t (with_levels levels report t) found

  -- what is kept of the run afterwards
  module _ {R : Type 0} (i : ℕ) (w : State R) (ts : Places Thread) (found : running i w.threads ≡ Some t) (new_is : ts ≡ put (place i w.threads) (with_levels levels report t) w.threads) (alive : is_done t.status ≡ false) (kept : IsKept p w) where
    kept_is : IsKept p (record w { threads = ts })
    kept_is = kept_put p w kept (place i w.threads) t (with_levels levels report t) found fits refl (λ e. alive) ts new_is

    after_by : (b : Bool) → is_ended report ≡ b → LevelsReadyUnless b (sheets p t.target) levels → IsReadyUnless b p i (record w { threads = ts })
    after_by true e h = kept_is
    after_by false e h = record {
      thread = with_levels levels report t;
      found = still_running i w.threads ts found new_is;
      alive = ended_done report ∙ e;
      ready = h;
      kept = kept_is;
    }

    pub after : IsAfter p i report (record w { threads = ts })
    after = after_by (is_ended report) refl at.ready

-- the running thread stands there now, and all else is as it was
pub moved_is : {R : Type 0} (stream : R → Stream) (p : Project) (i : ℕ) (w : State R) (ts : Places Thread) (t : Thread) (x : Position) (levels : List Level) (report : Report)
    → IsAt (sheets p t.target) x levels report → running i w.threads ≡ Some t → ts ≡ put (place i w.threads) (with_levels levels report t) w.threads
    → moved i x (seen stream p w) ≡ record { world = seen stream p (record w { threads = ts }); report = report }
moved_is stream p i w ts t x levels report at found e = λ j. record {
  world = record (seen stream p w) { threads = threads_moved p t x levels report at i w.threads ts found e j };
  report = sym at.report_is j;
}
