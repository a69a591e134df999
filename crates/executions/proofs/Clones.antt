-- A clone is made beside the running thread.
use Rattle.std.proofs.Common.{◌≡◌, ◌≢◌, ℕ, ◌+◌, ◌<◌, ◌^◌, Bool, true, false, List, [], ◌∷◌, ◌++◌, Some, Err, refl, sym, ap, ◌∙◌, subst, arith}
use Rattle.std.specs.Prelude.{◌==◌, if◌then◌else◌}
use Rattle.rand_core.specs.Stream.{Stream}
use Rattle.script_words.specs.declared.stops.CounterKind.TheVariants as counter
use Rattle.script_words.specs.declared.stops.Stop.{Stop}
use Rattle.machine_spec.specs.Outcome.{Outcome, Goes, Spent, then_do, StopIs, last_number}
use Rattle.machine_spec.specs.Stores.{instance_at, store_at}
use Rattle.machine_spec.specs.declared.instance.Instance.{Instance}
use Rattle.machine_spec.specs.declared.threads.Control.TheVariants as control
use Rattle.machine_spec.specs.declared.threads.Filter.TheVariants.{CloneStart}
use Rattle.machine_spec.specs.declared.threads.Report.{Report}
use Rattle.machine_spec.specs.declared.threads.Which.{Which}
use Rattle.machine_spec.specs.Pending.{settle}
use Rattle.machine_spec.specs.Places.{Places, place, running, Everyone}
use Rattle.machine_spec.specs.Starting.{start_all}
use Rattle.machine_spec.specs.Step.{moved, cloned, cloned_unless}
use Rattle.machine_spec.specs.Stopping.{copied, clone_added, placed_behind, has_no_room}
use Rattle.machine_spec.specs.Tasks.{begin}
use Rattle.project_check.specs.declared.project.Project.{Project}
use Rattle.project_check.specs.Loaded.{program_of}
use Rattle.targets.specs.Live.{IsLive}
use Rattle.thread_frames.specs.Fit.{Fits}
use Rattle.thread_frames.specs.Levels.{warp_flag}
use Rattle.thread_frames.specs.Threads.{Thread, frames}
use Rattle.hats.proofs.Headed.{starts-headed}
use Rattle.executions.specs.declared.state.State.{State}
use Rattle.executions.specs.declared.execution.Next.{Next}
use Rattle.executions.specs.Seen.{sheets, seen}
use Rattle.executions.specs.Ready.{ArePeopled, IsKept, IsReady, IsAfter}
use Rattle.thread_moves.specs.Moves.{IsAtBlock, MovesOn}
use Rattle.executions.specs.Rows.{Acts}
use Rattle.executions.proofs.Begun.{crowd, hats_of, begun_runs, begins, begin_stops}
use Rattle.executions.proofs.Beside.{IsNext, acts, at_block, moves, still_after, r}
use Rattle.executions.proofs.Crew.{lt-from_live, is_live-pushed, is_live-cloned, is_live-behind}
use Rattle.executions.proofs.Living.{living_live, started_living}
use Rattle.executions.proofs.People.{people_added, people_behind, held_added}
use Rattle.executions.proofs.Stops.{stop-then, stop-same}

-- a number is left

number_left : {A : Type 0} (b : Bool) (o : Outcome A) → b ≡ false → (if b then Spent counter.Instance else o) ≡ o
number_left true o e = absurd (cc e)
number_left false o e = refl

module _ {R : Type 0} (stream : R → Stream) (p : Project) (i original : ℕ) (w : State R) (ready : IsReady p i w) (left : (w.next_instance == last_number) ≡ false) (here : IsLive original w.targets) where
  abbrev copy : Instance
  copy = copied w.next_instance (instance_at original w.targets)

  -- with the copy, which has no thread yet
  abbrev with_copy : State R
  with_copy = record w { next_instance = w.next_instance + 1; targets = w.targets ++ copy ∷ []; variables = record w.variables { stores = w.variables.stores ++ record (store_at original w.variables.stores) { of = w.next_instance } ∷ [] } }

  kept_copy : IsKept p with_copy
  kept_copy = record {
    threads = ready.kept.threads;
    few = ready.kept.few;
    people = people_added p w.next_instance w.targets ready.kept.people original here left;
    living = living_live w.targets (w.targets ++ copy ∷ []) w.threads (λ n h. is_live-pushed n w.targets copy h) ready.kept.living;
    free = held_added w.next_instance w.variables (record (store_at original w.variables.stores) { of = w.next_instance }) ready.kept.free refl;
  }

  apart : original ≢ w.next_instance
  apart e = let lt = lt-from_live w.next_instance original w.targets ready.kept.people.fresh here in absurd (omega (arith, lt, e))

  module _ (mid : State R) (mid_is : mid ≡ with_copy) where
    kept_mid : IsKept p mid
    kept_mid = subst (IsKept p) (sym mid_is) kept_copy

    found_mid : running i mid.threads ≡ Some ready.thread
    found_mid = ap (λ (v : State R). running i v.threads) mid_is ∙ ready.found

    cloned_is : cloned (program_of p) i original (seen stream p w) ≡ then_do (begin (program_of p) (Some i) (CloneStart w.next_instance) (seen stream p mid)) (λ b. Goes (record b.world { targets = placed_behind w.next_instance original b.world.targets }))
    cloned_is =
        number_left (w.next_instance == last_number) (then_do (begin (program_of p) (Some i) (CloneStart w.next_instance) (clone_added original (seen stream p w))) (λ b. Goes (record b.world { targets = placed_behind w.next_instance original b.world.targets }))) left
        ∙ ap (λ v. then_do (begin (program_of p) (Some i) (CloneStart w.next_instance) (seen stream p v)) (λ b. Goes (record b.world { targets = placed_behind w.next_instance original b.world.targets }))) (sym mid_is)

    pub live_then : IsLive w.next_instance mid.targets
    live_then = subst (λ (v : State R). IsLive w.next_instance v.targets) (sym mid_is) (is_live-cloned original w.next_instance w.targets here ready.kept.people.fresh)

    module _ (ts : Places Thread) (count : ℕ) (serials : List ℕ) (started : start_all frames (Some i) (hats_of p mid (CloneStart w.next_instance)) (crowd mid) ≡ Goes (record { threads = ts; next = count; serials = serials })) (targets : List Instance) where
      pub clone_goes : targets ≡ placed_behind w.next_instance original mid.targets → cloned (program_of p) i original (seen stream p w) ≡ Goes (seen stream p (record mid { next_thread = count; targets = targets; threads = ts }))
      clone_goes e =
          cloned_is
          ∙ ap (λ o. then_do o (λ b. Goes (record b.world { targets = placed_behind w.next_instance original b.world.targets }))) (begins stream p i mid kept_mid.threads (CloneStart w.next_instance) ts count serials started)
          ∙ ap (λ x. Goes (record (seen stream p (record mid { next_thread = count; threads = ts })) { targets = x })) (sym e)

      pub clone_runs : running i ts ≡ running i w.threads
      clone_runs = begun_runs stream p i mid kept_mid.threads (CloneStart w.next_instance) ts count serials started ready.thread found_mid ∙ sym ready.found

      module _ (placed : targets ≡ placed_behind w.next_instance original mid.targets) where
        still_here : IsLive original mid.targets
        still_here = subst (λ (v : State R). IsLive original v.targets) (sym mid_is) (is_live-pushed original w.targets copy here)

        pub clone_kept : (Everyone (Fits (sheets p)) mid.threads → Everyone (Fits (sheets p)) ts) → count < 2 ^ 62 → IsKept p (record mid { next_thread = count; targets = targets; threads = ts })
        clone_kept fits few = record {
          threads = record { all = fits kept_mid.threads.all };
          few = few;
          people = subst (ArePeopled p mid.next_instance) (sym placed) (people_behind p mid.next_instance mid.targets kept_mid.people w.next_instance original live_then still_here apart);
          living = living_live mid.targets targets ts (λ n h. subst (IsLive n) (sym placed) (is_live-behind w.next_instance original mid.targets live_then kept_mid.people.one_each still_here apart n h))
              (started_living p mid.targets (Some i) (hats_of p mid (CloneStart w.next_instance)) (crowd mid) (record { threads = ts; next = count; serials = serials }) (starts-headed p mid.targets (CloneStart w.next_instance)) started kept_mid.living);
          free = kept_mid.free;
        }

    pub clone_stops : (T U : Type 0) (stop : Stop) → StopIs {T = T} (Err stop) (start_all frames (Some i) (hats_of p mid (CloneStart w.next_instance)) (crowd mid)) → StopIs {T = U} (Err stop) (cloned (program_of p) i original (seen stream p w))
    clone_stops T U stop h =
        stop-same U U stop (then_do (begin (program_of p) (Some i) (CloneStart w.next_instance) (seen stream p mid)) (λ b. Goes (record b.world { targets = placed_behind w.next_instance original b.world.targets }))) (cloned (program_of p) i original (seen stream p w)) cloned_is
        (stop-then U U stop (begin (program_of p) (Some i) (CloneStart w.next_instance) (seen stream p mid)) (λ b. Goes (record b.world { targets = placed_behind w.next_instance original b.world.targets }))
        (begin_stops stream p i mid kept_mid.threads (CloneStart w.next_instance) T U stop h))

-- the running thread goes on
module _ {R : Type 0} (stream : R → Stream) (p : Project) (i original : ℕ) (w : State R) (ready : IsReady p i w) (n : Next) (is : IsNext ready.thread n) where
  module _ (v : State R) (made : cloned_unless (has_no_room (program_of p).records original (seen stream p w)) (program_of p) i original (seen stream p w) ≡ Goes (seen stream p v)) (runs : running i v.threads ≡ running i w.threads) (which : Which) (here : which ≡ place i v.threads) where
    pub clone_at : IsAtBlock p which v.threads n.target n.id
    clone_at = at_block stream p i w ready n is v (runs ∙ ready.found) which here

    module _ (ts : Places Thread) (report : Report) (m : MovesOn p which n.target n.id (λ s rest warp. settle rest warp) v.threads ts report) where
      pub clone_acts : (late : Bool) → Acts stream p i n.id late (control.Clone original) w (λ o. o ≡ Goes (record { world = seen stream p (record v { threads = ts }); report = report }))
      clone_acts late =
          acts stream p i w ready n is late (control.Clone original) (λ o. o ≡ Goes (record { world = seen stream p (record v { threads = ts }); report = report }))
          (λ s rest e. ap (λ o. then_do o (λ x. Goes (moved i (settle (r stream p i w ready n is rest) (warp_flag ready.thread.levels)) x))) made
          ∙ ap Goes (moves stream p i w ready n is v (runs ∙ ready.found) which here (λ s rest warp. settle rest warp) ts report m s rest e))

      pub clone_after : IsKept p v → IsAfter p i report (record v { threads = ts })
      clone_after kept = still_after stream p i w ready n is v (runs ∙ ready.found) which here (λ s rest warp. settle rest warp) ts report m kept

  pub clone_act_stops : (T U : Type 0) (stop : Stop) → StopIs {T = T} (Err stop) (cloned_unless (has_no_room (program_of p).records original (seen stream p w)) (program_of p) i original (seen stream p w)) → (late : Bool) → Acts stream p i n.id late (control.Clone original) w (StopIs {T = U} (Err stop))
  clone_act_stops T U stop h late =
      acts stream p i w ready n is late (control.Clone original) (StopIs {T = U} (Err stop))
      (λ s rest e. stop-then T U stop (cloned_unless (has_no_room (program_of p).records original (seen stream p w)) (program_of p) i original (seen stream p w)) (λ x. Goes (moved i (settle (r stream p i w ready n is rest) (warp_flag ready.thread.levels)) x)) h)
