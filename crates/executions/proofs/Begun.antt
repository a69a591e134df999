-- Hats that are started are begun in the world.
use Rattle.std.proofs.Common.{◌≡◌, ℕ, ◌<◌, ◌^◌, false, List, [], Option, Some, None, Err, refl, sym, ap, ◌∙◌, subst}
use Rattle.std.specs.Prelude.{All, IfSome}
use Rattle.rand_core.specs.Stream.{Stream}
use Rattle.script_words.specs.declared.stops.Stop.{Stop}
use Rattle.machine_spec.specs.Line as line
use Rattle.machine_spec.specs.Outcome.{Outcome, Goes, then_do, IfGoes, StopIs}
use Rattle.machine_spec.specs.Places.{Places, running, Everyone}
use Rattle.machine_spec.specs.Starting.{Pair, Crowd, starts, start_all}
use Rattle.machine_spec.specs.Tasks.{tasks, begun, begin, begin_pairs}
use Rattle.machine_spec.specs.Threads.{is_done}
use Rattle.machine_spec.specs.declared.instance.Instance.{Instance}
use Rattle.machine_spec.specs.declared.threads.Filter.{Filter}
use Rattle.project_check.specs.declared.project.Project.{Project}
use Rattle.project_check.specs.Loaded.{program_of}
use Rattle.thread_frames.specs.Fit.{Fits}
use Rattle.thread_frames.specs.Reading.{task}
use Rattle.thread_frames.specs.Threads.{Thread, frames}
use Rattle.hats.specs.Heads.{IsHeadOf}
use Rattle.hats.proofs.Headed.{starts-headed}
use Rattle.executions.specs.declared.state.State.{State}
use Rattle.executions.specs.Seen.{sheets, seen}
use Rattle.executions.specs.Ready.{AllFit, IsKept}
use Rattle.executions.specs.Resting.{IsIdle}
use Rattle.executions.proofs.Each.{starts_each, starts_alone}
use Rattle.executions.proofs.Kept.{starts_run}
use Rattle.executions.proofs.Living.{started_living}
use Rattle.executions.proofs.Natural.{seen_out, seen_crowd, starts_seen}
use Rattle.executions.proofs.Sights.{sees, all_counted, seen_stop}
use Rattle.executions.proofs.Stops.{stop-then, stop-same}

-- the threads of a run, and the number of the next one
abbrev pub crowd : {R : Type 0} → State R → Crowd Thread
crowd w = record { threads = w.threads; next = w.next_thread; serials = [] }

-- the hats that a filter starts in a run
abbrev pub hats_of : {R : Type 0} → Project → State R → Filter → List Pair
hats_of p w hats = starts (program_of p) hats w.targets

-- Hats of a list, while a slot is visited or none

module _ {R : Type 0} (stream : R → Stream) (p : Project) (w : State R) (fit : AllFit p w.threads) (is : List Instance) (slot : Option ℕ) (xs : List Pair) (heads : All (IsHeadOf p is) xs) where
  pairs_seen : seen_out (seen_crowd (task (sheets p))) (start_all frames slot xs (crowd w)) ≡ start_all tasks slot xs (seen_crowd (task (sheets p)) (crowd w))
  pairs_seen = starts_seen (task (sheets p)) (IsHeadOf p is) frames tasks (sees p is) slot xs (crowd w) heads (all_counted p w.threads fit)

  pub pairs_begin : (ts : Places Thread) (count : ℕ) (serials : List ℕ) → start_all frames slot xs (crowd w) ≡ Goes (record { threads = ts; next = count; serials = serials })
      → begin_pairs slot xs (seen stream p w) ≡ Goes (record { world = seen stream p (record w { threads = ts; next_thread = count }); serials = serials })
  pairs_begin ts count serials started = ap (λ o. then_do o (λ c. Goes (begun (seen stream p w) c))) (sym pairs_seen ∙ ap (seen_out (seen_crowd (task (sheets p)))) started)

  pub pairs_stop : (T U : Type 0) (stop : Stop) → StopIs {T = T} (Err stop) (start_all frames slot xs (crowd w)) → StopIs {T = U} (Err stop) (begin_pairs slot xs (seen stream p w))
  pairs_stop T U stop h =
      stop-then U U stop (start_all tasks slot xs (seen_crowd (task (sheets p)) (crowd w))) (λ c. Goes (begun (seen stream p w) c))
      (stop-same U U stop (seen_out (seen_crowd (task (sheets p))) (start_all frames slot xs (crowd w))) (start_all tasks slot xs (seen_crowd (task (sheets p)) (crowd w))) (sym pairs_seen)
      (seen_stop T U stop (seen_crowd (task (sheets p))) (start_all frames slot xs (crowd w)) h))

-- Hats of a filter, while a slot is visited

module _ {R : Type 0} (stream : R → Stream) (p : Project) (i : ℕ) (w : State R) (fit : AllFit p w.threads) (hats : Filter) where
  module _ (ts : Places Thread) (count : ℕ) (serials : List ℕ) (started : start_all frames (Some i) (hats_of p w hats) (crowd w) ≡ Goes (record { threads = ts; next = count; serials = serials })) where
    pub begun_runs : (t : Thread) → running i w.threads ≡ Some t → running i ts ≡ Some t
    begun_runs t found = subst (λ (o : Outcome (Crowd Thread)). IfGoes o (λ c. running i c.threads ≡ Some t)) started (starts_run frames i t (hats_of p w hats) (crowd w) found)

    pub begins : begin (program_of p) (Some i) hats (seen stream p w) ≡ Goes (record { world = seen stream p (record w { threads = ts; next_thread = count }); serials = serials })
    begins = pairs_begin stream p w fit w.targets (Some i) (hats_of p w hats) (starts-headed p w.targets hats) ts count serials started

  pub begin_stops : (T U : Type 0) (stop : Stop) → StopIs {T = T} (Err stop) (start_all frames (Some i) (hats_of p w hats) (crowd w)) → StopIs {T = U} (Err stop) (begin (program_of p) (Some i) hats (seen stream p w))
  begin_stops T U stop h = pairs_stop stream p w fit w.targets (Some i) (hats_of p w hats) (starts-headed p w.targets hats) T U stop h

-- What is kept

module _ {R : Type 0} (p : Project) (w : State R) (kept : IsKept p w) (slot : Option ℕ) (xs : List Pair) (heads : All (IsHeadOf p w.targets) xs) (ts : Places Thread) (count : ℕ) (serials : List ℕ)
    (started : start_all frames slot xs (crowd w) ≡ Goes (record { threads = ts; next = count; serials = serials })) where
  pub begun_kept : (Everyone (Fits (sheets p)) w.threads → Everyone (Fits (sheets p)) ts) → count < 2 ^ 62 → IsKept p (record w { threads = ts; next_thread = count })
  begun_kept fits few = record {
    threads = record { all = fits kept.threads.all };
    few = few;
    people = kept.people;
    living = started_living p w.targets slot xs (crowd w) (record { threads = ts; next = count; serials = serials }) heads started kept.living;
    free = kept.free;
  }

-- Between frames

module _ {R : Type 0} (p : Project) (w : State R) (idle : IsIdle p w) (xs : List Pair) (heads : All (IsHeadOf p w.targets) xs) (ts : Places Thread) (count : ℕ) (serials : List ℕ)
    (started : start_all frames None xs (crowd w) ≡ Goes (record { threads = ts; next = count; serials = serials })) where
  all_alive : Everyone (λ t. is_done t.status ≡ false) ts
  all_alive =
      subst (λ (o : Outcome (Crowd Thread)). IfGoes o (λ c. Everyone (λ t. is_done t.status ≡ false) c.threads)) started
      (starts_each frames (λ t. is_done t.status ≡ false) (IsHeadOf p w.targets) (λ n x h. refl) None xs (crowd w) heads
      (record { listed = idle.alive; detached = subst (λ o. IfSome o (λ (t : Thread). is_done t.status ≡ false)) (sym idle.resting.alone) tt }))

  -- no thread is detached or done
  pub pairs_idle : (Everyone (Fits (sheets p)) w.threads → Everyone (Fits (sheets p)) ts) → count < 2 ^ 62 → IsIdle p (record w { threads = ts; next_thread = count })
  pairs_idle fits few = record {
    resting = record {
      kept = begun_kept p w idle.resting.kept None xs heads ts count serials started fits few;
      alone = subst (λ (o : Outcome (Crowd Thread)). IfGoes o (λ c. c.threads.detached ≡ None)) started (starts_alone frames xs (crowd w) idle.resting.alone);
    };
    alive = all_alive.listed;
  }

module _ {R : Type 0} (stream : R → Stream) (p : Project) (w : State R) (idle : IsIdle p w) (hats : Filter) where
  module _ (ts : Places Thread) (count : ℕ) (serials : List ℕ) (started : start_all frames None (hats_of p w hats) (crowd w) ≡ Goes (record { threads = ts; next = count; serials = serials })) where
    pub hats_begin : line.started (program_of p) hats (seen stream p w) ≡ Goes (seen stream p (record w { threads = ts; next_thread = count }))
    hats_begin = ap (λ o. then_do o (λ b. Goes b.world)) (pairs_begin stream p w idle.resting.kept.threads w.targets None (hats_of p w hats) (starts-headed p w.targets hats) ts count serials started)

    pub hats_idle : (Everyone (Fits (sheets p)) w.threads → Everyone (Fits (sheets p)) ts) → count < 2 ^ 62 → IsIdle p (record w { threads = ts; next_thread = count })
    hats_idle fits few = pairs_idle p w idle (hats_of p w hats) (starts-headed p w.targets hats) ts count serials started fits few

  pub hats_stop : (T U : Type 0) (stop : Stop) → StopIs {T = T} (Err stop) (start_all frames None (hats_of p w hats) (crowd w)) → StopIs {T = U} (Err stop) (line.started (program_of p) hats (seen stream p w))
  hats_stop T U stop h =
      stop-then U U stop (begin (program_of p) None hats (seen stream p w)) (λ b. Goes b.world)
      (pairs_stop stream p w idle.resting.kept.threads w.targets None (hats_of p w hats) (starts-headed p w.targets hats) T U stop h)
