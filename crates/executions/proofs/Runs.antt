-- A runner, and the thread that it tells of.
use Rattle.std.proofs.Common.{◌≡◌, ℕ, ◌<◌, Bool, true, false, List, [], length, Option, Some, None, refl, sym, ap, ◌∙◌, subst, arith}
use Rattle.std.specs.Prelude.{slice_get, unwrap_or}
use Rattle.std.proofs.lemmas.Option.{slice_get_within}
use Rattle.rand_core.specs.Stream.{Stream}
use Rattle.machine_spec.specs.Outcome.{Outcome}
use Rattle.machine_spec.specs.Step.{Moment}
use Rattle.machine_spec.specs.Tasks.{Task}
use Rattle.machine_spec.specs.World.{World}
use Rattle.machine_spec.specs.declared.threads.Control.{Control}
use Rattle.machine_spec.specs.declared.threads.Report.{Report}
use Rattle.machine_spec.specs.declared.threads.Which.{Which}
use Rattle.machine_spec.specs.Places.{at_place, place, running}
use Rattle.project_spec.specs.declared.blocks.Block.{Block}
use Rattle.project_check.specs.declared.project.Project.{Project}
use Rattle.project_check.specs.Loaded.{blocks_at, tables_of}
use Rattle.thread_frames.specs.Levels.{top_block}
use Rattle.thread_frames.specs.Threads.{Thread, levels_of}
use Rattle.thread_frames.specs.Fit.{IsReadyAt}
use Rattle.thread_moves.specs.Standing.{is_ended}
use Rattle.executions.specs.declared.runner.Runner.{Runner}
use Rattle.executions.specs.declared.state.State.{State}
use Rattle.executions.specs.declared.execution.Next.{Next}
use Rattle.executions.specs.Nexts.{next_by, next_of}
use Rattle.executions.specs.Ready.{IsReady, IsReadyUnless, IsAfter}
use Rattle.executions.specs.Rows.{Acts}
use Rattle.executions.specs.Runners.{IsWho, IsRunner, IsRunnerUnless, IsRunnerAfter, RunsAt, next_block}
use Rattle.executions.specs.Seen.{sheets}
use Rattle.executions.proofs.Taking.{holds_by}

row_there : (tables : List (List Block)) (t k : ℕ) (o : Option (List Block)) → slice_get tables t ≡ o → k < length (unwrap_or o []) → t < length tables
row_there tables t k None e h = absurd (omega (arith, h))
row_there tables t k (Some blocks) e h = slice_get_within tables t blocks e

next_is_by : (r : Runner) (t : Thread) (k : ℕ) (o : Option ℕ) → o ≡ Some k → IsWho r t → next_by t o ≡ Some (next_block r k)
next_is_by r t k o e who = ap (next_by t) e ∙ (λ j. Some (record { target = sym who.target_is j; here = sym who.here_is j; serial = sym who.serial_is j; id = k }))

-- a runner whose top level holds a block is about to execute it, and the block is one of its target's
module _ {R : Type 0} (p : Project) (i k : ℕ) (r : Runner) (w : State R) (runs : IsRunner p i r w) (top : top_block (levels_of (at_place r.which w.threads)) ≡ Some k) where
  found_here : at_place r.which w.threads ≡ Some runs.ready.thread
  found_here = ap (λ z. at_place z w.threads) runs.place_is ∙ runs.ready.found

  top_here : top_block runs.ready.thread.levels ≡ Some k
  top_here = sym (ap (λ o. top_block (levels_of o)) found_here) ∙ top

  ready_here : IsReadyAt (sheets p r.target) runs.ready.thread.levels
  ready_here = subst (λ t. IsReadyAt (sheets p t) runs.ready.thread.levels) (sym runs.who.target_is) runs.ready.ready

  member_here : k < length (blocks_at r.target p)
  member_here = let holds = holds_by (sheets p r.target) runs.ready.thread.levels k ready_here top_here in slice_get_within (blocks_at r.target p) k holds.block holds.found

  pub runs_at : RunsAt p i r w k
  runs_at = record {
    ready = runs.ready;
    place_is = runs.place_is;
    next_is = ap next_of found_here ∙ next_is_by r runs.ready.thread k (top_block runs.ready.thread.levels) top_here runs.who;
    held = row_there (tables_of p) r.target k (slice_get (tables_of p) r.target) refl member_here;
    member = member_here;
  }

-- after an execution the thread that it tells of has ended, or is about to execute a block
module _ {R : Type 0} (p : Project) (i : ℕ) (r : Runner) (last : State R) (there : r.which ≡ place i last.threads) (t : Thread) (found : running i last.threads ≡ Some t) (who : IsWho r t) where
  runner_by : (b : Bool) → IsReadyUnless b p i last → IsRunnerUnless b p i r last
  runner_by true h = h
  runner_by false h = record {
    ready = h;
    place_is = there;
    who = let same : t ≡ h.thread = cc (sym found ∙ h.found) in subst (IsWho r) same who;
  }

  pub runner_after : (report : Report) → IsAfter p i report last → IsRunnerAfter p i report r last
  runner_after report h = runner_by (is_ended report) h

-- a thread that has not ended is a runner again, and one that has ended is none
pub again_after : {R : Type 0} (p : Project) (i : ℕ) (report : Report) (r : Runner) (w : State R) → is_ended report ≡ false → IsRunner p i r w → IsRunnerAfter p i report r w
again_after p i report r w e runs = subst (λ b. IsRunnerUnless b p i r w) (sym e) runs

pub gone_after : {R : Type 0} (p : Project) (i : ℕ) (report : Report) (r : Runner) (w : State R) → is_ended report ≡ true → IsAfter p i report w → IsRunnerAfter p i report r w
gone_after p i report r w e after = subst (λ b. IsRunnerUnless b p i r w) (sym e) (subst (λ b. IsReadyUnless b p i w) e after)

-- what it executes next is block k
pub acts_next : {R : Type 0} (stream : R → Stream) (p : Project) (i k : ℕ) (late : Bool) (control : Control) (r : Runner) (w : State R) (n : Next) → n ≡ next_block r k → (P : Outcome (Moment (World Task)) → Type 0)
    → Acts stream p i n.id late control w P → Acts stream p i k late control w P
acts_next stream p i k late control r w n same P acts = subst (λ j. Acts stream p i j late control w P) (ap (λ (x : Next). x.id) same) acts

-- the thread that stands where the running one does
pub runner_is : {R : Type 0} (p : Project) (i : ℕ) (w : State R) (ready : IsReady p i w) (which : Which) → which ≡ place i w.threads → (t : Thread) → Some t ≡ at_place which w.threads → (r : Runner) → r.which ≡ which → IsWho r t → IsRunner p i r w
runner_is p i w ready which at t found r there who =
    let same : t ≡ ready.thread = cc (found ∙ ap (λ z. at_place z w.threads) at ∙ ready.found) in
    record { ready = ready; place_is = there ∙ at; who = subst (IsWho r) same who }
