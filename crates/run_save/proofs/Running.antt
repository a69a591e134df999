-- A run that is made of what a saved text tells.
use Rattle.std.proofs.Common.{◌≡◌, ◌<◌, ◌^◌, false, List, None, sym, ap, ◌∙◌, subst}
use Rattle.std.specs.List.{All}
use Rattle.rand_core.specs.Stream.{Stream}
use Rattle.machine_spec.specs.Places.{Everyone, shown_by}
use Rattle.machine_spec.specs.Threads.{is_done}
use Rattle.machine_spec.specs.Words.{seen_words, words_after}
use Rattle.project_check.specs.declared.project.Project.{Project}
use Rattle.executions.specs.Ready.{ArePeopled, HasNoneFrom, IsOfLive}
use Rattle.executions.specs.Resting.{IsIdle}
use Rattle.executions.specs.Seen.{seen, sheets}
use Rattle.executions.specs.declared.state.State.{State}
use Rattle.thread_frames.specs.declared.parts.ThreadPart.{ThreadPart}
use Rattle.thread_frames.specs.Fit.{Fits}
use Rattle.thread_frames.specs.Reading.{task}
use Rattle.thread_frames.specs.Rebuilding.{threads_of}
use Rattle.saved_parts.specs.Telling.{told_of}
use Rattle.saved_parts.specs.declared.run.ToldRun.{ToldRun}
use Rattle.project_check.specs.Loaded.{basis_of}
use Rattle.saved_spec.specs.Rules.{broken}
use Rattle.sequencer.specs.Runs.{IsRunOf}
use Rattle.sequencer.specs.declared.run.Run.{Run}
use Rattle.run_save.specs.Loading.{IsRunTold}
use Rattle.run_save.specs.Parts.{AreParts}
use Rattle.saved_spec.specs.Worlds.{world_told}
use Rattle.run_save.proofs.Keeping.{all_ready, free, people, threads_below}
use Rattle.run_save.proofs.Parts.{all_alive, all_fit, all_live, tasks_are}
use Rattle.run_save.proofs.Worlds.{same_world}

-- the parts of a state are those that are told, and its threads have these parts
pub record IsStateTold {R : Type 0} (stream : R → Stream) (r : ToldRun) (qs : List ThreadPart) (s : State R) : Type 0 where
  pub frame : s.frame ≡ r.frame
  pub words : seen_words stream s.words ≡ words_after r.seed r.drawn
  pub next_thread : s.next_thread ≡ r.next.thread
  pub next_instance : s.next_instance ≡ r.next.instance
  pub redraw : s.redraw ≡ false
  pub targets : s.targets ≡ (told_of r).run.targets
  pub variables : s.variables ≡ (told_of r).run.variables
  pub devices : s.devices ≡ (told_of r).run.devices
  pub threads : s.threads ≡ threads_of qs

module _ {R : Type 0} (stream : R → Stream) (p : Project) (r : ToldRun) (qs : List ThreadPart) (s : State R) (h : broken (basis_of p) (told_of r) ≡ None) (parts : AreParts p (told_of r) (told_of r).run.threads qs) (is : IsStateTold stream r qs s) where
  world_is : seen stream p s ≡ world_told (basis_of p) (told_of r)
  world_is =
      same_world (seen stream p s) (world_told (basis_of p) (told_of r)) is.frame is.words is.next_thread is.next_instance is.redraw is.targets is.variables is.devices
      (ap (shown_by (task (sheets p))) is.threads ∙ (λ i. record { list = tasks_are p (told_of r) (told_of r).run.threads qs parts i; detached = None }))

  -- it is a state between two lines
  pub idle_is : IsIdle p s
  idle_is = record {
    resting = record {
      kept = record {
        threads = record { all = subst (Everyone (Fits (sheets p))) (sym is.threads) (record { listed = all_fit p (told_of r) (told_of r).run.threads qs parts; detached = tt }) };
        few = subst (λ n. n < 2 ^ 62) (sym is.next_thread) (threads_below p r h);
        people = subst (λ n. ArePeopled p n s.targets) (sym is.next_instance) (subst (ArePeopled p r.next.instance) (sym is.targets) (people p r h));
        living = subst (λ us. Everyone (IsOfLive us) s.threads) (sym is.targets) (subst (Everyone (IsOfLive (told_of r).run.targets)) (sym is.threads) (record { listed = all_live p (told_of r) (told_of r).run.targets (told_of r).run.threads qs (all_ready (basis_of p) (told_of r) h) parts; detached = tt }));
        free = subst (λ n. HasNoneFrom n s.variables) (sym is.next_instance) (subst (HasNoneFrom r.next.instance) (sym is.variables) (free p r h));
      };
      alone = ap (λ ts. ts.detached) is.threads;
    };
    alive = subst (λ ts. All (λ y. is_done y.status ≡ false) ts.list) (sym is.threads) (all_alive p (told_of r) (told_of r).run.threads qs parts);
  }

-- the run in that state
pub run_told : {R : Type 0} (stream : R → Stream) (p : Project) (r : ToldRun) (qs : List ThreadPart) (run : Run R) → broken (basis_of p) (told_of r) ≡ None → AreParts p (told_of r) (told_of r).run.threads qs
    → IsStateTold stream r qs run.state → IsRunOf p run → IsRunTold stream p (told_of r) run
run_told stream p r qs run h parts is fits = record { world = world_is stream p r qs run.state h parts is; fits = fits }
