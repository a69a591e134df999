-- A slice by one more execution.
use Rattle.std.proofs.Common.{◌≡◌, ℕ, zero, suc, ◌+◌, ◌-◌, ◌<◌, ◌≤◌, Bool, true, false, Option, Some, None, Err, refl, sym, ap, ◌∙◌, arith}
use Rattle.std.specs.Option.{option_map}
use Rattle.script_words.specs.declared.stops.Stop.{Stop}
use Rattle.machine_spec.specs.declared.threads.Report.{Report}
use Rattle.machine_spec.specs.declared.threads.Report.TheVariants.{Go, Uncovered, Yielded, Ticked, Waits, Ended}
use Rattle.machine_spec.specs.Outcome.{Outcome, Goes, then_do, StopIs}
use Rattle.machine_spec.specs.Places.{Places, at_place, running}
use Rattle.machine_spec.specs.Slice.{go_on, is_late, counted_after, slice_goes_on, Executing, behind, slice_by, flag_of}
use Rattle.project_spec.specs.Trees.{Sheet}
use Rattle.thread_frames.specs.Levels.{top_block, warp_flag}
use Rattle.thread_frames.specs.Reading.{task}
use Rattle.thread_frames.specs.Threads.{Thread, levels_of}
use Rattle.thread_moves.specs.Standing.{is_ended}
use Rattle.project_check.specs.declared.project.Project.{Project}
use Rattle.executions.specs.declared.state.State.{State}
use Rattle.executions.specs.Seen.{sheets, seen_threads}
use Rattle.executions.specs.declared.runner.Runner.{Runner}
use Rattle.executions.specs.Ready.{IsKept, IsReady}
use Rattle.executions.specs.Runners.{IsRunner, IsRunnerUnless, IsRunnerAfter}
use Rattle.machine_spec.proofs.Placing.{running_seen}
use Rattle.executions.proofs.Stops.{stop-then, stop-same}

-- the flag of the running thread is that of its levels
flag_of_task : (s : ℕ → Sheet) (o : Option Thread) → flag_of (option_map (task s) o) ≡ warp_flag (levels_of o)
flag_of_task s None = refl
flag_of_task s (Some t) = refl

pub flag_seen : (p : Project) (i : ℕ) (ts : Places Thread) → flag_of (running i (seen_threads p ts)) ≡ warp_flag (levels_of (running i ts))
flag_seen p i ts = ap flag_of (running_seen (task (sheets p)) i ts) ∙ flag_of_task (sheets p) (running i ts)

-- where a slice goes on, the thread has not ended
pub goes_on_lives : (r : Report) (before after late : Bool) → slice_goes_on r before after late ≡ true → is_ended r ≡ false
goes_on_lives Go before after late e = refl
goes_on_lives Uncovered before after late e = refl
goes_on_lives Yielded before after late e = refl
goes_on_lives Ticked before after late e = refl
goes_on_lives Waits before after late e = refl
goes_on_lives Ended before after late e = absurd (cc e)

-- where it has ended the slice does not
ended_off : (r : Report) (before after late : Bool) → is_ended r ≡ true → slice_goes_on r before after late ≡ false
ended_off Ended before after late e = refl
ended_off r before after late e = absurd (cc e)

-- an execution behind which the slice ends, whatever the flag is of a thread that has ended
pub off_by : (r : Report) (before after flag late : Bool) → (is_ended r ≡ false → after ≡ flag) → false ≡ slice_goes_on r before after late → false ≡ slice_goes_on r before flag late
off_by r before after flag late same h = by (is_ended r) refl
  where
    by : (b : Bool) → is_ended r ≡ b → false ≡ slice_goes_on r before flag late
    by true e = sym (ended_off r before flag late e)
    by false e = h ∙ ap (λ x. slice_goes_on r before x late) (same e)

-- the flag of a runner is that of its thread in the list
pub runner_flag : {R : Type 0} (p : Project) (i : ℕ) (r : Runner) (w : State R) → IsRunner p i r w → flag_of (running i (seen_threads p w.threads)) ≡ warp_flag (levels_of (at_place r.which w.threads))
runner_flag p i r w runs = flag_seen p i w.threads ∙ ap (λ z. warp_flag (levels_of (at_place z w.threads))) (sym runs.place_is)

-- the top level of a thread that is about to execute a block holds it
pub ready_block : {R : Type 0} (p : Project) (i : ℕ) (w : State R) → IsReady p i w → top_block (levels_of (running i w.threads)) ≡ None → ⊥
ready_block p i w ready none =
    let some = ready.ready.holds in
    let is = sym (ap (λ o. top_block (levels_of o)) ready.found) ∙ none in
    cc

-- so does that of a runner
pub holds_block : {R : Type 0} (p : Project) (i : ℕ) (r : Runner) (w : State R) → IsRunner p i r w → top_block (levels_of (at_place r.which w.threads)) ≡ None → ⊥
holds_block p i r w runs none =
    let here = ap (λ z. at_place z w.threads) runs.place_is ∙ runs.ready.found in
    let some = runs.ready.ready.holds in
    let is = sym (ap (λ o. top_block (levels_of o)) here) ∙ none in
    cc

runs_by : {R : Type 0} (b : Bool) (p : Project) (i : ℕ) (r : Runner) (w : State R) → b ≡ false → IsRunnerUnless b p i r w → IsRunner p i r w
runs_by true p i r w e h = absurd (cc e)
runs_by false p i r w e h = h

-- after an execution that has not ended the thread there is a runner
module _ {R : Type 0} (p : Project) (i : ℕ) (report : Report) (r : Runner) (w : State R) (runs : IsRunnerAfter p i report r w) where
  pub still_runs : is_ended report ≡ false → IsRunner p i r w
  still_runs e = runs_by (is_ended report) p i r w e runs

  pub flag_after : is_ended report ≡ false → warp_flag (levels_of (at_place r.which w.threads)) ≡ flag_of (running i (seen_threads p w.threads))
  flag_after e = sym (runner_flag p i r w (still_runs e))

  kept_by : (b : Bool) → IsRunnerUnless b p i r w → IsKept p w
  kept_by true h = h
  kept_by false h = h.ready.kept

  pub after_kept : IsKept p w
  after_kept = kept_by (is_ended report) runs

-- Slices, whatever a world and its execution are
module _ {W : Type 0} (e : Executing W) (budget : ℕ) where
  slice-none : (m : ℕ) (w : W) → slice_by e budget zero m w ≡ Goes w
  unfolding slice_by
  slice-none m w = refl

  slice-more : (n m : ℕ) (w : W) → slice_by e budget (suc n) m w ≡ then_do (e.execute (is_late budget m) w) (behind e budget (counted_after m (e.flag w)) (e.flag w) (slice_by e budget n (counted_after m (e.flag w))))
  unfolding slice_by
  slice-more n m w = refl

  -- the last execution was made
  pub slice-over : (n turn m : ℕ) (all : Outcome W) (w : W) → all ≡ slice_by e budget (n - turn) m w → n ≤ turn → all ≡ Goes w
  slice-over n turn m all w same le =
      let none : n - turn ≡ 0 = omega arith in
      same ∙ ap (λ k. slice_by e budget k m w) none ∙ slice-none m w

  module _ (n turn m : ℕ) (all : Outcome W) (w : W) (flag : Bool) (same : all ≡ slice_by e budget (n - turn) m w) (lt : turn < n) (flag_is : flag ≡ e.flag w) where
    abbrev left : ℕ
    left = n - (turn + 1)

    abbrev counted : ℕ
    counted = counted_after m flag

    here : all ≡ then_do (e.execute (is_late budget m) w) (behind e budget counted flag (slice_by e budget left counted))
    here =
        let one : n - turn ≡ suc (n - (turn + 1)) = omega arith in
        same ∙ ap (λ k. slice_by e budget k m w) one ∙ slice-more left m w
        ∙ ap (λ b. then_do (e.execute (is_late budget m) w) (behind e budget (counted_after m b) b (slice_by e budget left (counted_after m b)))) (sym flag_is)

    pub slice-stop : (T U : Type 0) (stop : Stop) → StopIs {T = T} (Err stop) (e.execute (is_late budget m) w) → StopIs {T = U} (Err stop) all
    slice-stop T U stop h = stop-same U U stop _ all here (stop-then T U stop _ _ h)

    module _ (new : W) (r : Report) (m' : ℕ) (after : Bool) (executed : e.execute (is_late budget m) w ≡ Goes (record { world = new; report = r })) (counted_is : m' ≡ counted_after m flag) (after_is : after ≡ e.flag new) where
      then_is : all ≡ go_on (slice_goes_on r flag after (is_late budget m')) (slice_by e budget left m') (λ v. Goes v) new
      then_is =
          here ∙ ap (λ o. then_do o (behind e budget counted flag (slice_by e budget left counted))) executed
          ∙ ap (λ k. go_on (slice_goes_on r flag (e.flag new) (is_late budget k)) (slice_by e budget left k) (λ v. Goes v) new) (sym counted_is)
          ∙ ap (λ b. go_on (slice_goes_on r flag b (is_late budget m')) (slice_by e budget left m') (λ v. Goes v) new) (sym after_is)

      pub slice-on : true ≡ slice_goes_on r flag after (is_late budget m') → all ≡ slice_by e budget (n - (turn + 1)) m' new
      slice-on h = then_is ∙ ap (λ b. go_on b (slice_by e budget left m') (λ v. Goes v) new) (sym h)

      pub slice-off : false ≡ slice_goes_on r flag after (is_late budget m') → all ≡ Goes new
      slice-off h = then_is ∙ ap (λ b. go_on b (slice_by e budget left m') (λ v. Goes v) new) (sym h)
