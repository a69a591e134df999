-- The running thread goes on where others are started or ended beside it.
use Rattle.std.proofs.Common.{◌≡◌, ◌≢◌, ℕ, ◌<◌, ◌^◌, Bool, true, false, not, List, [], ◌∷◌, ◌++◌, length, Option, Some, None, Result, Err, refl, sym, ap, ◌∙◌, subst, arith}
use Rattle.std.specs.Prelude.{filter, ◌==◌, ◌&&◌}
use Rattle.std.specs.Option.{option_map}
use Rattle.std.proofs.lemmas.Option.{same_Some}
use Rattle.rand_core.specs.Stream.{Stream}
use Rattle.script_words.specs.declared.stops.Stop.{Stop}
use Rattle.opcode_table.specs.declared.kinds.Kind.{Kind}
use Rattle.opcode_table.specs.declared.kinds.Kind.TheVariants.{Choice, Endless, Counted, Calls, Waits, Glides, Starts, Asks, Speaks, Plain}
use Rattle.machine_spec.specs.Keeping.{is_starts, may_wait, top_fits}
use Rattle.machine_spec.specs.Lists.{first_removed}
use Rattle.machine_spec.specs.Outcome.{Outcome, Goes, then_do, StopIs}
use Rattle.machine_spec.specs.Script.{Script, Then, Statement}
use Rattle.machine_spec.specs.Stores.{Devices, Variables}
use Rattle.machine_spec.specs.declared.variables.Store.{Store}
use Rattle.machine_spec.specs.declared.instance.Instance.{Instance}
use Rattle.machine_spec.specs.declared.threads.Context.TheVariants.{Fresh, Started}
use Rattle.machine_spec.specs.declared.threads.Control.{Control}
use Rattle.machine_spec.specs.declared.threads.Control.TheVariants as control
use Rattle.machine_spec.specs.declared.threads.Filter.{Filter}
use Rattle.machine_spec.specs.declared.threads.Report.{Report}
use Rattle.machine_spec.specs.declared.threads.Report.TheVariants.{Yielded, Ended}
use Rattle.machine_spec.specs.declared.threads.Which.{Which}
use Rattle.machine_spec.specs.Pending.{Item, Position, dos, settle, gone, kept}
use Rattle.machine_spec.specs.Places.{Places, at_place, put, put_some, on_place, place, running, on_running, Everyone}
use Rattle.machine_spec.specs.Starting.{start_all, finished_of}
use Rattle.machine_spec.specs.Step.{Moment, moved, act, others_stopped, after_start, clone_deleted, deleted_if}
use Rattle.machine_spec.specs.Stopping.{scene_of, with_scene, questions_dropped, disposed, without_timers, is_clone}
use Rattle.machine_spec.specs.Tasks.{Task, tasks, at_position, begin}
use Rattle.machine_spec.specs.World.{World}
use Rattle.project_spec.specs.Trees.{Sheet, target_of_link, script, statement}
use Rattle.project_spec.proofs.Unrolling.{script-at}
use Rattle.project_check.specs.declared.project.Project.{Project}
use Rattle.project_check.specs.Loaded.{program_of, ranks_at}
use Rattle.project_check.proofs.Linked.{ranked_at}
use Rattle.speech_bubbles.specs.Scenes.{scene_in}
use Rattle.targets.specs.Live.{IsLive, IsSameCast}
use Rattle.thread_frames.specs.Levels.{top_block, without_top, warp_flag}
use Rattle.thread_frames.specs.Reading.{beneath, task}
use Rattle.thread_frames.specs.Fit.{Fits}
use Rattle.thread_frames.specs.Threads.{Thread, frames, finish, levels_of}
use Rattle.thread_moves.specs.Standing.{IsAt, TopHolds}
use Rattle.hats.specs.Heads.{IsHeadOf}
use Rattle.hats.proofs.Headed.{starts-headed}
use Rattle.executions.specs.declared.state.State.{State}
use Rattle.executions.specs.declared.execution.Next.{Next}
use Rattle.executions.specs.Seen.{sheets, seen_threads, seen}
use Rattle.executions.specs.Ready.{ArePeopled, HasNoneFrom, IsOfLive, IsKept, IsReady, IsAfter}
use Rattle.thread_moves.specs.Moves.{IsAtBlock, Moved, MovesOn, with_levels}
use Rattle.executions.specs.Nexts.{next_by, next_of}
use Rattle.executions.specs.Answers.{ActsAs}
use Rattle.executions.specs.Rows.{Acts}
use Rattle.executions.proofs.Begun.{crowd, hats_of, begun_runs, begins, begin_stops, begun_kept}
use Rattle.executions.proofs.Keeping.{kept_cast, kept_threads}
use Rattle.executions.proofs.Kept.{ended_keeps, ended_everyone}
use Rattle.executions.proofs.Living.{done_living, gone_living}
use Rattle.executions.proofs.Natural.{ended_seen}
use Rattle.executions.proofs.People.{none_first_removed, people_cast, people_removed}
use Rattle.executions.proofs.Crew.{is_live-without}
use Rattle.machine_spec.proofs.Placing.{put_seen, at_seen, place_seen, everyone_put}
use Rattle.executions.proofs.Sights.{sees, finish_fits}
use Rattle.executions.proofs.Stops.{stop-then, stop-same}
use Rattle.executions.proofs.Taking.{holds_by}
use Rattle.executions.proofs.Worlds.{moved_is, after}

-- what a thread executes next
pub record IsNext (t : Thread) (n : Next) : Type 0 where
  pub target : t.target ≡ n.target
  pub here : t.of ≡ n.here
  pub holds : top_block t.levels ≡ Some n.id

next_by_is : (t : Thread) (n : Next) (o : Option ℕ) → top_block t.levels ≡ o → next_by t o ≡ Some n → IsNext t n
next_by_is t n None h e = absurd (cc e)
next_by_is t n (Some k) h e =
    let same : ◌≡◌ {A = Next} (record { target = t.target; here = t.of; serial = t.serial; id = k }) n = same_Some _ n e in
    record { target = ap (λ x. x.target) same; here = ap (λ x. x.here) same; holds = h ∙ ap (λ x. Some x.id) same }

module _ {R : Type 0} (p : Project) (i : ℕ) (w : State R) (ready : IsReady p i w) (n : Next) where
  pub next_is : next_of (running i w.threads) ≡ Some n → IsNext ready.thread n
  next_is next = next_by_is ready.thread n (top_block ready.thread.levels) refl (sym (ap next_of ready.found) ∙ next)

  pub next_at : (which : Which) → which ≡ place i w.threads → next_of (at_place which w.threads) ≡ Some n → IsNext ready.thread n
  next_at which at next = next_is (ap (λ z. next_of (at_place z w.threads)) (sym at) ∙ next)

module _ {R : Type 0} (stream : R → Stream) (p : Project) (i : ℕ) (w : State R) (ready : IsReady p i w) (n : Next) (is : IsNext ready.thread n) where
  abbrev t : Thread
  t = ready.thread

  abbrev sheet : Sheet
  sheet = sheets p ready.thread.target

  abbrev th : TopHolds sheet t.levels n.id
  th = holds_by sheet t.levels n.id ready.ready is.holds

  abbrev pub r : Script → List Item
  r rest = dos rest ++ beneath sheet (without_top t.levels)

  -- what a control does with the running thread and with all others
  pub acts : (late : Bool) (c : Control) (P : Outcome (Moment (World Task)) → Type 0)
      → ((s : Statement) (rest : Script) → script sheet (Some n.id) ≡ Then s rest → P (act (program_of p) i late (task (sheets p) t) s (r rest) c Fresh (seen stream p w)))
      → Acts stream p i n.id late c w P
  acts late c P h u s rest found e =
      let same : t ≡ u = same_Some t u (sym ready.found ∙ found) in
      subst (λ (x : Thread). script (sheets p x.target) (Some n.id) ≡ Then s rest → P (act (program_of p) i late (task (sheets p) x) s (dos rest ++ beneath (sheets p x.target) (without_top x.levels)) c Fresh (seen stream p w))) same (h s rest) e

  -- the run meanwhile, in which the thread is still the running one
  module _ (v : State R) (found : running i v.threads ≡ Some t) (which : Which) (here : which ≡ place i v.threads) where
    at_is : at_place which v.threads ≡ Some t
    at_is = ap (λ z. at_place z v.threads) here ∙ found

    pub at_block : IsAtBlock p which v.threads n.target n.id
    at_block = record {
      thread = t;
      found = at_is;
      target_is = is.target;
      alive = ready.alive;
      top = subst (λ x. TopHolds (sheets p x) t.levels n.id) is.target th;
    }

    module _ (f : Statement → List Item → Bool → Position) (ts : Places Thread) (report : Report) (m : MovesOn p which n.target n.id f v.threads ts report) where
      module _ (s : Statement) (rest : Script) (e : script sheet (Some n.id) ≡ Then s rest) where
        abbrev x : Position
        x = f s (r rest) (warp_flag t.levels)

        moved_so : Moved p which v.threads ts x report
        moved_so =
            subst (λ y. Moved p which v.threads ts (f s (dos rest ++ beneath (sheets p y) (without_top t.levels)) (warp_flag t.levels)) report) (sym is.target)
            (subst (λ l. Moved p which v.threads ts (f s (dos rest ++ beneath (sheets p n.target) (without_top l)) (warp_flag l)) report) (ap levels_of at_is)
            (m s rest (ap (λ y. script (sheets p y) (Some n.id)) (sym is.target) ∙ e)))

        before : moved_so.before ≡ t
        before = same_Some moved_so.before t (sym moved_so.found ∙ at_is)

        stands : IsAt sheet x moved_so.levels report
        stands = subst (λ (y : Thread). IsAt (sheets p y.target) x moved_so.levels report) before moved_so.stands

        ts_is : ts ≡ put (place i v.threads) (with_levels moved_so.levels report t) v.threads
        ts_is = moved_so.new_is ∙ (λ j. put (here j) (with_levels moved_so.levels report (before j)) v.threads)

        -- the machine moves it as the code did
        pub moves : moved i x (seen stream p v) ≡ record { world = seen stream p (record v { threads = ts }); report = report }
        moves = moved_is stream p i v ts t x moved_so.levels report stands found ts_is

        is_after : IsKept p v → IsAfter p i report (record v { threads = ts })
        is_after kept = after p t x moved_so.levels report stands i v ts found ts_is ready.alive kept

      pub still_after : IsKept p v → IsAfter p i report (record v { threads = ts })
      still_after kept = is_after (statement sheet n.id th.block) (script sheet (target_of_link th.block.next)) (script-at sheet (ranks_at t.target p) (ranked_at p t.target) n.id th.block th.found) kept

  -- Other scripts of the instance

  module _ (which : Which) (at : which ≡ place i w.threads) (targets : List Instance) (devices : Devices) (cast : IsSameCast w.targets targets) (mid : Places Thread) (ended : mid ≡ finished_of frames (Some which) n.here w.threads) where
    abbrev stopped : State R
    stopped = record w { targets = targets; devices = devices; threads = mid }

    place_is : which ≡ place i mid
    place_is = at ∙ ap (λ (ts : Places Thread). place i ts) (sym ended)

    still_runs : running i mid ≡ Some t
    still_runs =
        ap (λ z. at_place z mid) (sym place_is) ∙ ap (at_place which) ended ∙ ended_keeps frames which n.here w.threads ∙ ap (λ z. at_place z w.threads) at ∙ ready.found

    pub stopped_at : IsAtBlock p which mid n.target n.id
    stopped_at = at_block stopped still_runs which place_is

    shown_kept : IsKept p (record w { targets = targets; devices = devices })
    shown_kept = kept_cast p w (record w { targets = targets; devices = devices }) refl refl refl refl ready.kept cast

    stopped_kept : IsKept p stopped
    stopped_kept =
        kept_threads p (record w { targets = targets; devices = devices }) shown_kept mid
        (subst (Everyone (Fits (sheets p))) (sym ended) (ended_everyone frames (Fits (sheets p)) (Some which) n.here w.threads (finish_fits p) shown_kept.threads.all))
        (subst (Everyone (IsOfLive targets)) (sym ended) (ended_everyone frames (IsOfLive targets) (Some which) n.here w.threads (done_living targets) shown_kept.living))

    threads_stopped : finished_of tasks (Some (place i (seen_threads p w.threads))) t.of (seen_threads p w.threads) ≡ seen_threads p mid
    threads_stopped =
        (λ j. finished_of tasks (Some ((place_seen (task (sheets p)) i w.threads ∙ sym at) j)) (is.here j) (seen_threads p w.threads))
        ∙ sym (ended_seen (task (sheets p)) (IsHeadOf p []) frames tasks (sees p []) (Some which) n.here w.threads)
        ∙ ap (seen_threads p) (sym ended)

    module _ (dropped : questions_dropped n.here (scene_in w.targets w.devices) ≡ Goes (scene_in targets devices)) where
      others_are : others_stopped i t.of (seen stream p w) ≡ Goes (seen stream p stopped)
      others_are =
          ap (λ o. then_do o (λ x. Goes (record (with_scene (seen stream p w) x) { threads = finished_of tasks (Some (place i (seen_threads p w.threads))) t.of (seen_threads p w.threads) })))
          (ap (λ o. questions_dropped o (scene_in w.targets w.devices)) is.here ∙ dropped)
          ∙ ap (λ ts. Goes (record (seen stream p stopped) { threads = ts })) threads_stopped

      module _ (ts : Places Thread) (report : Report) (m : MovesOn p which n.target n.id (λ s rest warp. settle rest warp) mid ts report) where
        pub others_go : (late : Bool) → Acts stream p i n.id late control.StopOthers w (λ o. o ≡ Goes (record { world = seen stream p (record stopped { threads = ts }); report = report }))
        others_go late =
            acts late control.StopOthers (λ o. o ≡ Goes (record { world = seen stream p (record stopped { threads = ts }); report = report }))
            (λ s rest e. ap (λ o. then_do o (λ x. Goes (moved i (settle (r rest) (warp_flag t.levels)) x))) others_are
            ∙ ap Goes (moves stopped still_runs which place_is (λ s rest warp. settle rest warp) ts report m s rest e))

        pub others_after : IsAfter p i report (record stopped { threads = ts })
        others_after = still_after stopped still_runs which place_is (λ s rest warp. settle rest warp) ts report m stopped_kept

  pub others_stop : (T U : Type 0) (stop : Stop) → StopIs {T = T} (Err stop) (questions_dropped n.here (scene_in w.targets w.devices)) → (late : Bool) → Acts stream p i n.id late control.StopOthers w (StopIs {T = U} (Err stop))
  others_stop T U stop h late =
      acts late control.StopOthers (StopIs {T = U} (Err stop))
      (λ s rest e. stop-then U U stop (others_stopped i t.of (seen stream p w)) (λ x. Goes (moved i (settle (r rest) (warp_flag t.levels)) x))
      (stop-then U U stop (questions_dropped t.of (scene_of (seen stream p w))) (λ x. Goes (record (with_scene (seen stream p w) x) { threads = finished_of tasks (Some (place i (seen_threads p w.threads))) t.of (seen_threads p w.threads) }))
      (stop-same T U stop (questions_dropped n.here (scene_in w.targets w.devices)) (questions_dropped t.of (scene_in w.targets w.devices)) (ap (λ o. questions_dropped o (scene_in w.targets w.devices)) is.here) h)))

  -- Hats that are started

  module _ (hats : Filter) (wait : Bool) (ts : Places Thread) (count : ℕ) (serials : List ℕ) (started : start_all frames (Some i) (hats_of p w hats) (crowd w) ≡ Goes (record { threads = ts; next = count; serials = serials })) where
    abbrev begun_state : State R
    begun_state = record w { threads = ts; next_thread = count }

    abbrev goes_to : Statement → List Item → Bool → Position
    goes_to s rest warp = after_start wait serials s warp rest

    runs_on : running i ts ≡ Some t
    runs_on = begun_runs stream p i w ready.kept.threads hats ts count serials started t ready.found

    module _ (which : Which) (here : which ≡ place i ts) where
      pub begun_at : IsAtBlock p which ts n.target n.id
      begun_at = at_block begun_state runs_on which here

      module _ (last : Places Thread) (report : Report) (m : MovesOn p which n.target n.id goes_to ts last report) where
        pub start_goes : (late : Bool) → Acts stream p i n.id late (control.Start hats wait) w (λ o. o ≡ Goes (record { world = seen stream p (record begun_state { threads = last }); report = report }))
        start_goes late =
            acts late (control.Start hats wait) (λ o. o ≡ Goes (record { world = seen stream p (record begun_state { threads = last }); report = report }))
            (λ s rest e. ap (λ o. then_do o (λ b. Goes (moved i (after_start wait b.serials s (warp_flag t.levels) (r rest)) b.world))) (begins stream p i w ready.kept.threads hats ts count serials started)
            ∙ ap Goes (moves begun_state runs_on which here goes_to last report m s rest e))

        pub start_after : (Everyone (Fits (sheets p)) w.threads → Everyone (Fits (sheets p)) ts) → count < 2 ^ 62 → IsAfter p i report (record begun_state { threads = last })
        start_after fits few =
            still_after begun_state runs_on which here goes_to last report m
            (begun_kept p w ready.kept (Some i) (hats_of p w hats) (starts-headed p w.targets hats) ts count serials started fits few)

  pub start_stops : (T U : Type 0) (stop : Stop) (hats : Filter) (wait : Bool) → StopIs {T = T} (Err stop) (start_all frames (Some i) (hats_of p w hats) (crowd w)) → (late : Bool) → Acts stream p i n.id late (control.Start hats wait) w (StopIs {T = U} (Err stop))
  start_stops T U stop hats wait h late =
      acts late (control.Start hats wait) (StopIs {T = U} (Err stop))
      (λ s rest e. stop-then U U stop (begin (program_of p) (Some i) hats (seen stream p w)) (λ b. Goes (moved i (after_start wait b.serials s (warp_flag t.levels) (r rest)) b.world))
      (begin_stops stream p i w ready.kept.threads hats T U stop h))

  -- A clone that is deleted

  module _ (targets : List Instance) (variables : Variables) (targets_are : targets ≡ first_removed (λ x. x.number == n.here) w.targets) (variables_are : variables ≡ record w.variables { stores = first_removed (λ x. x.of == n.here) w.variables.stores }) where
    abbrev gone_world : World Task
    gone_world = disposed n.here (seen stream p w)

    drops : questions_dropped n.here (scene_of gone_world) ≡ questions_dropped n.here (scene_in targets w.devices)
    drops = ap (λ x. questions_dropped n.here (scene_in x w.devices)) (sym targets_are)

    module _ (clone : is_clone (program_of p).records n.here ≡ true) where
      deleted_is : (s : Statement) (rest : Script) → deleted_if (is_clone (program_of p).records t.of) i (task (sheets p) t) (settle (r rest) (warp_flag t.levels)) (seen stream p w) ≡ then_do (clone_deleted n.here (seen stream p w)) (λ v. Goes (moved i gone v))
      deleted_is s rest =
          ap (λ b. deleted_if b i (task (sheets p) t) (settle (r rest) (warp_flag t.levels)) (seen stream p w)) (ap (is_clone (program_of p).records) is.here ∙ clone)
          ∙ ap (λ o. then_do (clone_deleted o (seen stream p w)) (λ v. Goes (moved i gone v))) is.here

      pub delete_stops : (T U : Type 0) (stop : Stop) → StopIs {T = T} (Err stop) (questions_dropped n.here (scene_in targets w.devices)) → (late : Bool) → Acts stream p i n.id late control.DeleteClone w (StopIs {T = U} (Err stop))
      delete_stops T U stop h late =
          acts late control.DeleteClone (StopIs {T = U} (Err stop))
          (λ s rest e. stop-same U U stop (then_do (clone_deleted n.here (seen stream p w)) (λ v. Goes (moved i gone v))) (deleted_if (is_clone (program_of p).records t.of) i (task (sheets p) t) (settle (r rest) (warp_flag t.levels)) (seen stream p w)) (deleted_is s rest)
          (stop-then U U stop (clone_deleted n.here (seen stream p w)) (λ v. Goes (moved i gone v))
          (stop-then U U stop (questions_dropped n.here (scene_of gone_world)) (λ x. Goes (record (with_scene gone_world (without_timers n.here x)) { threads = finished_of tasks None n.here (seen_threads p w.threads) }))
          (stop-same T U stop (questions_dropped n.here (scene_in targets w.devices)) (questions_dropped n.here (scene_of gone_world)) drops h))))

      module _ (shown : List Instance) (asked devices : Devices) (mid last : Places Thread) (which : Which) (at : which ≡ place i w.threads)
          (dropped : questions_dropped n.here (scene_in targets w.devices) ≡ Goes (scene_in shown asked)) (devices_are : devices ≡ record asked { timers = filter (λ x. not (x.of == n.here)) asked.timers })
          (ended : mid ≡ finished_of frames None n.here w.threads) (finished : last ≡ on_place finish which mid) where
        abbrev deleted : Places Thread → State R
        deleted ts = record w { targets = shown; variables = variables; devices = devices; threads = ts }

        threads_ended : finished_of tasks None n.here (seen_threads p w.threads) ≡ seen_threads p mid
        threads_ended = sym (ended_seen (task (sheets p)) (IsHeadOf p []) frames tasks (sees p []) None n.here w.threads) ∙ ap (seen_threads p) (sym ended)

        clone_is : clone_deleted n.here (seen stream p w) ≡ Goes (seen stream p (deleted mid))
        clone_is =
            ap (λ o. then_do o (λ x. Goes (record (with_scene gone_world (without_timers n.here x)) { threads = finished_of tasks None n.here (seen_threads p w.threads) }))) (drops ∙ dropped)
            ∙ (λ j. Goes (record (seen stream p w) { targets = shown; variables = sym variables_are j; devices = sym devices_are j; threads = threads_ended j }))

        gone_some : (o : Option Thread) → put_some (option_map (task (sheets p)) o) (at_position gone) which (seen_threads p mid) ≡ seen_threads p (put_some o finish which mid)
        gone_some None = refl
        gone_some (Some u) = sym (put_seen (task (sheets p)) which (finish u) mid)

        gone_seen : on_running (at_position gone) i (seen_threads p mid) ≡ seen_threads p last
        gone_seen =
            ap (λ z. on_place (at_position gone) z (seen_threads p mid)) (place_seen (task (sheets p)) i mid ∙ ap (λ (ts : Places Thread). place i ts) ended ∙ sym at)
            ∙ ap (λ o. put_some o (at_position gone) which (seen_threads p mid)) (at_seen (task (sheets p)) which mid)
            ∙ gone_some (at_place which mid)
            ∙ ap (seen_threads p) (sym finished)

        gone_fits : (o : Option Thread) → Everyone (Fits (sheets p)) mid → Everyone (Fits (sheets p)) (put_some o finish which mid)
        gone_fits None h = h
        gone_fits (Some u) h = everyone_put (Fits (sheets p)) which mid (finish u) h (finish_fits p u)

        pub delete_goes : (late : Bool) → Acts stream p i n.id late control.DeleteClone w (λ o. o ≡ Goes (record { world = seen stream p (deleted last); report = Ended }))
        delete_goes late =
            acts late control.DeleteClone (λ o. o ≡ Goes (record { world = seen stream p (deleted last); report = Ended }))
            (λ s rest e. deleted_is s rest ∙ ap (λ o. then_do o (λ v. Goes (moved i gone v))) clone_is
            ∙ ap (λ ts. Goes (record { world = record (seen stream p (deleted last)) { threads = ts }; report = Ended })) gone_seen)

        module _ (cast : IsSameCast targets shown) where
          gone_people : ArePeopled p w.next_instance shown
          gone_people =
              people_cast p w.next_instance targets (subst (ArePeopled p w.next_instance) (sym targets_are) (people_removed p w.next_instance w.targets ready.kept.people n.here clone)) shown cast

          others_live : (m : ℕ) → m ≢ n.here → IsLive m w.targets → IsLive m shown
          others_live m other h = cast.live m (subst (IsLive m) (sym targets_are) (is_live-without m n.here w.targets other h))

          last_is : last ≡ on_place finish (place i w.threads) (finished_of frames None n.here w.threads)
          last_is = finished ∙ (λ j. on_place finish (at j) (ended j))

          pub delete_after : IsKept p (deleted last)
          delete_after = record {
            threads = record {
              all = subst (Everyone (Fits (sheets p))) (sym finished) (gone_fits (at_place which mid)
                  (subst (Everyone (Fits (sheets p))) (sym ended) (ended_everyone frames (Fits (sheets p)) None n.here w.threads (finish_fits p) ready.kept.threads.all)));
            };
            few = ready.kept.few;
            people = gone_people;
            living = subst (Everyone (IsOfLive shown)) (sym last_is) (gone_living w.targets shown n.here others_live i w.threads ready.kept.living);
            free = subst (HasNoneFrom w.next_instance) (sym variables_are)
                (λ m le. none_first_removed (λ (s : Store). s.of == m) (λ s. s.of == n.here) w.variables.stores (ready.kept.free m le));
          }

  -- an original goes on
  module _ (which : Which) (at : which ≡ place i w.threads) where
    pub original_at : IsAtBlock p which w.threads n.target n.id
    original_at = at_block w ready.found which at

    module _ (ts : Places Thread) (report : Report) (m : MovesOn p which n.target n.id (λ s rest warp. settle rest warp) w.threads ts report) where
      pub original_goes : is_clone (program_of p).records n.here ≡ false → (late : Bool) → Acts stream p i n.id late control.DeleteClone w (λ o. o ≡ Goes (record { world = seen stream p (record w { threads = ts }); report = report }))
      original_goes original late =
          acts late control.DeleteClone (λ o. o ≡ Goes (record { world = seen stream p (record w { threads = ts }); report = report }))
          (λ s rest e. ap (λ b. deleted_if b i (task (sheets p) t) (settle (r rest) (warp_flag t.levels)) (seen stream p w)) (ap (is_clone (program_of p).records) is.here ∙ original)
          ∙ ap Goes (moves w ready.found which at (λ s rest warp. settle rest warp) ts report m s rest e))

      pub original_after : IsAfter p i report (record w { threads = ts })
      original_after = still_after w ready.found which at (λ s rest warp. settle rest warp) ts report m ready.kept

-- A control of which it is known what it is

module _ {R : Type 0} (stream : R → Stream) (p : Project) (i k : ℕ) (c d : Control) (w : State R) (late : Bool) (is : c ≡ d) where
  pub acts_as : (result : Result Report Stop) (v : State R) → ((l : Bool) → ActsAs stream p i k l d w result v) → ActsAs stream p i k late c w result v
  acts_as result v h = subst (λ x. ActsAs stream p i k late x w result v) (sym is) (h late)

-- The block that started hats

module _ (p : Project) (which : Which) (target k : ℕ) (old new : Places Thread) (report : Report) where
  -- it goes on where it waits for none
  pub goes_by : (wait : Bool) (serials : List ℕ) → (wait ≡ true → length serials ≡ 0) → MovesOn p which target k (λ s rest warp. settle rest warp) old new report → MovesOn p which target k (λ s rest warp. after_start wait serials s warp rest) old new report
  goes_by false serials h m = m
  goes_by true [] h m = m
  goes_by true (x ∷ xs) h m = absurd (let none = h refl in omega (arith, none))

  -- else it stays
  pub waits_by : (wait : Bool) (serials : List ℕ) → wait ≡ true → (length serials ≡ 0 → ⊥) → MovesOn p which target k (λ s rest warp. record { items = kept s (Started serials) ∷ rest; warp = warp; report = Yielded }) old new Yielded → MovesOn p which target k (λ s rest warp. after_start wait serials s warp rest) old new Yielded
  waits_by false serials e h m = absurd (cc e)
  waits_by true [] e h m = absurd (h refl)
  waits_by true (x ∷ xs) e h m = m

some_top : (serials : List ℕ) → (length serials ≡ 0 → ⊥) → top_fits (Started serials) false Starts ≡ true
some_top [] h = absurd (h refl)
some_top (x ∷ xs) h = refl

pub starts_wait : (k : Kind) (serials : List ℕ) → is_starts k ≡ true → (length serials ≡ 0 → ⊥) → (may_wait k && top_fits (Started serials) false k) ≡ true
starts_wait Starts serials e h = some_top serials h
starts_wait Choice serials e h = absurd (cc e)
starts_wait Endless serials e h = absurd (cc e)
starts_wait Counted serials e h = absurd (cc e)
starts_wait Calls serials e h = absurd (cc e)
starts_wait Waits serials e h = absurd (cc e)
starts_wait Glides serials e h = absurd (cc e)
starts_wait Asks serials e h = absurd (cc e)
starts_wait Speaks serials e h = absurd (cc e)
starts_wait Plain serials e h = absurd (cc e)
