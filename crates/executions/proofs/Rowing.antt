-- The row of the block of a runner, and its control.
use Rattle.std.proofs.Common.{◌≡◌, ℕ, ◌<◌, Bool, true, [], length, Option, Some, Result, Err, refl, sym, subst}
use Rattle.std.specs.Prelude.{slice_get, unwrap_or}
use Rattle.rand_core.specs.Stream.{Stream}
use Rattle.script_words.specs.declared.counter.Counted.{Counted}
use Rattle.script_words.specs.declared.stops.Stop.{Stop}
use Rattle.scratch_values.specs.Named.{Arguments}
use Rattle.opcode_table.specs.Kinds.{kind}
use Rattle.opcode_table.specs.declared.opcode.Opcode.{Opcode}
use Rattle.block_arguments.specs.Afresh.{was_afresh}
use Rattle.machine_spec.specs.Outcome.{Outcome, Goes, StopIs, most_levels}
use Rattle.machine_spec.specs.Evaluate.{evaluated}
use Rattle.machine_spec.specs.Laws.{is_own}
use Rattle.machine_spec.specs.Script.{Script, Then, Statement}
use Rattle.machine_spec.specs.Threads.{Params}
use Rattle.machine_spec.specs.View.{View}
use Rattle.machine_spec.specs.Words.{seen_words}
use Rattle.machine_spec.specs.declared.threads.Context.{Context}
use Rattle.machine_spec.specs.declared.threads.Context.TheVariants.{Fresh}
use Rattle.machine_spec.specs.declared.threads.Control.{Control}
use Rattle.machine_spec.specs.declared.threads.Control.TheVariants.{Next, Clone}
use Rattle.machine_spec.specs.declared.threads.Report.{Report}
use Rattle.machine_spec.specs.Pending.{settle}
use Rattle.machine_spec.specs.Places.{Places, at_place, on_place}
use Rattle.machine_spec.specs.Starting.{open_levels}
use Rattle.machine_spec.specs.Step.{Moment, position, opens_level, step}
use Rattle.machine_spec.specs.Tasks.{Task}
use Rattle.machine_spec.specs.World.{World}
use Rattle.project_spec.specs.Trees.{script}
use Rattle.project_check.specs.declared.project.Project.{Project}
use Rattle.project_check.specs.Loaded.{program_of}
use Rattle.cached_blocks.specs.declared.block.CachedBlock.{CachedBlock}
use Rattle.cached_blocks.specs.Cached.{cached_blocks}
use Rattle.targets.specs.Live.{IsLive}
use Rattle.thread_frames.specs.Levels.{on_top, with_context, top_context, near_params}
use Rattle.thread_frames.specs.Threads.{Thread, frames, levels_of, on_levels}
use Rattle.thread_moves.specs.Moves.{IsAtBlock, MovesOn}
use Rattle.executions.specs.declared.runner.Runner.{Runner}
use Rattle.executions.specs.declared.state.State.{State}
use Rattle.executions.specs.Seen.{sheets, seen}
use Rattle.executions.specs.Room.{room_for}
use Rattle.executions.specs.Answers.{Answers, Chooses, Steps}
use Rattle.executions.specs.Rows.{RowGoes, RowStops, Leaves, Acts, Enacts, may_clone}
use Rattle.executions.specs.Runners.{IsRunnerAfter, RunsAt, next_block}
use Rattle.executions.specs.Choices.{KeepsNothing, chosen}
use Rattle.executions.proofs.Chosen.{chosen_goes, chosen_keeps, chosen_own, leaves_all}
use Rattle.executions.proofs.Enacting as enacting
use Rattle.executions.proofs.Enacting.{one_ok}
use Rattle.executions.proofs.Plainly as plainly

module _ {R : Type 0} (stream : R → Stream) (p : Project) (i k : ℕ) (late : Bool) (a : Arguments) (r : Runner) (w : State R) (at : RunsAt p i r w k)
    (b : CachedBlock) (cached : slice_get (cached_blocks (sheets p r.target)) k ≡ Some b) where
  -- a block of data
  module _ (keeps : KeepsNothing (kind b.op)) where
    pub data_stops : (T U : Type 0) (stop : Stop) → ((thread : ℕ) (c : Context) → RowStops {T = T} stream p b a r.here thread c w (Err stop)) → Enacts stream p i k late a w (StopIs {T = U} (Err stop))
    data_stops T U stop stops = plainly.row_stops stream p i r.which (next_block r k) late a w at.ready at.place_is at.next_is b cached keeps T U stop stops

    module _ (mid : State R) (left : Leaves w mid) where
      pub data_at : IsAtBlock p r.which mid.threads r.target k
      data_at = subst (λ ts. IsAtBlock p r.which ts r.target k) (sym left.threads) (plainly.stands_at stream p i r.which (next_block r k) late a w at.ready at.place_is at.next_is b cached keeps)

      module _ (goes : (thread : ℕ) (c : Context) → RowGoes stream p b a r.here thread c w Fresh mid Next) (last : State R) (last_is : last ≡ record mid { threads = last.threads }) (report : Report)
          (moves : MovesOn p r.which r.target k (λ s rest warp. settle rest warp) mid.threads last.threads report) where
        pub data_goes : Enacts stream p i k late a w (λ o. o ≡ Goes (record { world = seen stream p last; report = report }))
        data_goes = plainly.goes_on stream p i r.which (next_block r k) late a w at.ready at.place_is at.next_is b cached keeps mid goes left last report moves last_is

        pub data_after : IsRunnerAfter p i report r last
        data_after = plainly.goes_after stream p i r.which (next_block r k) late a w at.ready at.place_is at.next_is b cached keeps mid goes left last report moves last_is r refl refl

  -- a block that may keep something, of which the context was taken out
  module _ (c : Context) (kept : c ≡ top_context (levels_of (at_place r.which w.threads))) (taken : Places Thread) (taken_is : taken ≡ on_place (on_levels (on_top (with_context Fresh))) r.which w.threads) where
    pub kept_stops : (T U : Type 0) (stop : Stop) → RowStops {T = T} stream p b a r.here r.serial c (record w { threads = taken }) (Err stop) → Enacts stream p i k late a w (StopIs {T = U} (Err stop))
    kept_stops T U stop stops = enacting.row_stops stream p i r.which (next_block r k) late a w at.ready at.place_is at.next_is taken c kept taken_is b cached T U stop stops

    module _ (mid : State R) (control : Control) (c' : Context) (goes : RowGoes stream p b a r.here r.serial c (record w { threads = taken }) c' mid control) (left : Leaves (record w { threads = taken }) mid) where
      pub kept_at : IsAtBlock p r.which mid.threads r.target k
      kept_at = subst (λ ts. IsAtBlock p r.which ts r.target k) (sym left.threads) (enacting.stands_at stream p i r.which (next_block r k) late a w at.ready at.place_is at.next_is taken c kept taken_is b cached)

      module _ (own : is_own control ≡ true) where
        pub kept_own_stops : (T U : Type 0) (stop : Stop) → StopIs {T = T} (Err stop) (room_for (opens_level control) (open_levels frames mid.threads)) → Enacts stream p i k late a w (StopIs {T = U} (Err stop))
        kept_own_stops T U stop h = enacting.own_stops stream p i r.which (next_block r k) late a w at.ready at.place_is at.next_is taken c kept taken_is b cached mid control c' goes own left T U stop h

        module _ (last : State R) (last_is : last ≡ record mid { threads = last.threads }) (report : Report)
            (moves : MovesOn p r.which r.target k (λ s rest warp. position (program_of p) late warp s rest control c') mid.threads last.threads report) where
          pub kept_own_goes : (opens_level control ≡ true → open_levels frames mid.threads < most_levels) → Enacts stream p i k late a w (λ o. o ≡ Goes (record { world = seen stream p last; report = report }))
          kept_own_goes room = enacting.own_goes stream p i r.which (next_block r k) late a w at.ready at.place_is at.next_is taken c kept taken_is b cached mid control c' goes own left last report moves last_is room

          pub kept_own_after : IsRunnerAfter p i report r last
          kept_own_after = enacting.own_runs stream p i r.which (next_block r k) late a w at.ready at.place_is at.next_is taken c kept taken_is b cached mid control c' goes own left last report moves last_is r refl refl

      -- a control of others
      module _ (was : was_afresh (kind b.op) c ≡ true) (fresh : c' ≡ Fresh) where
        pub others_run : RunsAt p i r mid k
        others_run = record {
          ready = enacting.still_ready stream p i r.which (next_block r k) late a w at.ready at.place_is at.next_is taken c kept taken_is b cached mid control c' goes was fresh left;
          place_is = enacting.still_at stream p i r.which (next_block r k) late a w at.ready at.place_is at.next_is taken c kept taken_is b cached mid control c' goes was fresh left;
          next_is = enacting.still_next stream p i r.which (next_block r k) late a w at.ready at.place_is at.next_is taken c kept taken_is b cached mid control c' goes was fresh left;
          held = at.held;
          member = at.member;
        }

        pub others_clones : may_clone r.here (length (program_of p).records.targets) control ≡ true → (original : ℕ) → control ≡ Clone original → IsLive original mid.targets
        others_clones may original e = enacting.clones_live stream p i r.which (next_block r k) late a w at.ready at.place_is at.next_is taken c kept taken_is b cached mid control c' goes was fresh left may original e

        others_act : (P : Outcome (Moment (World Task)) → Type 0) → Acts stream p i k late control mid P → Enacts stream p i k late a w P
        others_act P acts = enacting.others_act stream p i r.which (next_block r k) late a w at.ready at.place_is at.next_is taken c kept taken_is b cached mid control c' goes was fresh left P acts

        pub others_so : (result : Result Report Stop) (new : Runner) (last : State R) → Answers stream p i (Acts stream p i k late control mid) result new last → Answers stream p i (Enacts stream p i k late a w) result new last
        others_so result new last h = record {
          ok = one_ok result _ _ (λ report acts. others_act (λ o. o ≡ Goes (record { world = seen stream p last; report = report })) acts) h.ok;
          after = h.after;
          stop = others_act (StopIs result) h.stop;
        }

  -- a block that only chooses where the runner goes
  module _ (control : Control) (chosen_is : chosen b.op a ≡ Some control) where
    fresh : Fresh ≡ top_context (levels_of (at_place r.which w.threads))
    fresh = plainly.keeps_nothing stream p i r.which (next_block r k) late a w at.ready at.place_is at.next_is b cached (chosen_keeps b.op a control chosen_is)

    untaken : w.threads ≡ on_place (on_levels (on_top (with_context Fresh))) r.which w.threads
    untaken = plainly.nothing_taken stream p i r.which (next_block r k) late a w at.ready at.place_is at.next_is b cached (chosen_keeps b.op a control chosen_is)

    goes : RowGoes stream p b a r.here r.serial Fresh w Fresh w control
    goes = chosen_goes stream p b a r.here r.serial Fresh w control chosen_is

    pub choice_at : IsAtBlock p r.which w.threads r.target k
    choice_at = kept_at Fresh fresh w.threads untaken w control Fresh goes (leaves_all w)

    pub choice_stops : (T U : Type 0) (stop : Stop) → StopIs {T = T} (Err stop) (room_for (opens_level control) (open_levels frames w.threads)) → Enacts stream p i k late a w (StopIs {T = U} (Err stop))
    choice_stops = kept_own_stops Fresh fresh w.threads untaken w control Fresh goes (leaves_all w) (chosen_own b.op a control chosen_is)

    module _ (last : State R) (last_is : last ≡ record w { threads = last.threads }) (report : Report)
        (moves : MovesOn p r.which r.target k (λ s rest warp. position (program_of p) late warp s rest control Fresh) w.threads last.threads report) where
      pub choice_goes : (opens_level control ≡ true → open_levels frames w.threads < most_levels) → Enacts stream p i k late a w (λ o. o ≡ Goes (record { world = seen stream p last; report = report }))
      choice_goes = kept_own_goes Fresh fresh w.threads untaken w control Fresh goes (leaves_all w) (chosen_own b.op a control chosen_is) last last_is report moves

      pub choice_after : IsRunnerAfter p i report r last
      choice_after = kept_own_after Fresh fresh w.threads untaken w control Fresh goes (leaves_all w) (chosen_own b.op a control chosen_is) last last_is report moves

  -- its instance is live
  pub runner_live : IsLive r.here w.targets
  runner_live = enacting.here_live stream p i r.which (next_block r k) late a w at.ready at.place_is at.next_is

-- the inputs are evaluated before
module _ {R : Type 0} (stream : R → Stream) (p : Project) (i k : ℕ) (late : Bool) (a : Arguments) (r : Runner) (w : State R) (at : RunsAt p i r w k)
    (ps : Option Params) (near : ps ≡ near_params (levels_of (at_place r.which w.threads))) where
  abbrev seen_here : View
  seen_here = enacting.view_here stream p i r.which (next_block r k) late a w at.ready at.place_is at.next_is (unwrap_or ps [])

  pub runner_executes : (words : Counted R) → ((s : Statement) (rest : Script) → script (sheets p r.target) (Some k) ≡ Then s rest → evaluated seen_here s (seen_words stream w.words) ≡ Goes (record { value = a; words = seen_words stream words }))
      → (P : Outcome (Moment (World Task)) → Type 0) → Enacts stream p i k late a (record w { words = words }) P → P (step (program_of p) i late (seen stream p w))
  runner_executes words values P acts = enacting.executes stream p i r.which (next_block r k) late a w at.ready at.place_is at.next_is ps near words values P acts

  pub runner_stopped : (T U : Type 0) (result : Result T Stop) (stop : Stop) → result ≡ Err stop → ((s : Statement) (rest : Script) → script (sheets p r.target) (Some k) ≡ Then s rest → StopIs result (evaluated seen_here s (seen_words stream w.words))) → StopIs {T = U} (Err stop) (step (program_of p) i late (seen stream p w))
  runner_stopped T U result stop is stops =
      enacting.stops_here stream p i r.which (next_block r k) late a w at.ready at.place_is at.next_is ps near T U stop
      (λ s rest e. subst (λ o. StopIs o (evaluated seen_here s (seen_words stream w.words))) is (stops s rest e))

  pub executes_so : (words : Counted R) → ((s : Statement) (rest : Script) → script (sheets p r.target) (Some k) ≡ Then s rest → evaluated seen_here s (seen_words stream w.words) ≡ Goes (record { value = a; words = seen_words stream words }))
      → (result : Result Report Stop) (new : Runner) (last : State R) → Answers stream p i (Enacts stream p i k late a (record w { words = words })) result new last → Answers stream p i (Steps stream p i late w) result new last
  executes_so words values result new last h = record {
    ok = one_ok result _ _ (λ report acts. runner_executes words values (λ o. o ≡ Goes (record { world = seen stream p last; report = report })) acts) h.ok;
    after = h.after;
    stop = runner_executes words values (StopIs result) h.stop;
  }

-- a control that was chosen is that of these arguments
pub chosen_so : {R : Type 0} (stream : R → Stream) (p : Project) (i k : ℕ) (late : Bool) (op : Opcode) (control : Control) (w : State R) (result : Result Report Stop) (new : Runner) (last : State R) (a : Arguments) → chosen op a ≡ Some control
    → Answers stream p i (Chooses stream p i k late op control w) result new last → Answers stream p i (Enacts stream p i k late a w) result new last
chosen_so stream p i k late op control w result new last a is h = record {
  ok = one_ok result _ _ (λ report f. f a is) h.ok;
  after = h.after;
  stop = h.stop a is;
}
