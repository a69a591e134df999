-- One execution of the code is one of the machine.
use Rattle.std.proofs.Common.{◌≡◌, ℕ, ◌<◌, Bool, true, false, List, [], ◌∷◌, ◌++◌, Some, Err, refl, sym, ap, ◌∙◌, subst, arith}
use Rattle.std.specs.Prelude.{unwrap_or, is_some, nat_lt, if◌then◌else◌}
use Rattle.std.specs.Option.{option_map}
use Rattle.std.proofs.lemmas.Bool.Decides.{nat_tests}
use Rattle.rand_core.specs.Stream.{Stream}
use Rattle.script_words.specs.declared.counter.Counted.{Counted}
use Rattle.script_words.specs.declared.stops.Stop.{Stop}
use Rattle.script_words.specs.declared.stops.Stop.TheVariants as stops
use Rattle.scratch_values.specs.Named.{Arguments}
use Rattle.machine_spec.specs.Outcome.{Outcome, Goes, Full, TooLong, Spent, then_do, with_room, most_levels, StopIs}
use Rattle.machine_spec.specs.Script.{Script, Then, Statement, command_of}
use Rattle.machine_spec.specs.Program.{Program}
use Rattle.machine_spec.specs.Threads.{Params}
use Rattle.machine_spec.specs.declared.threads.Context.{Context}
use Rattle.machine_spec.specs.declared.threads.Control.{Control}
use Rattle.machine_spec.specs.declared.threads.Control.TheVariants.{Next, Branch, Yield, YieldTick, Promise, Call, StopThis, StopOthers, StopAll, DeleteClone, Start, Clone}
use Rattle.machine_spec.specs.declared.threads.Report.{Report}
use Rattle.machine_spec.specs.declared.threads.Which.{Which}
use Rattle.machine_spec.specs.Laws.{is_own}
use Rattle.machine_spec.specs.Keeping.{is_called, top_fits}
use Rattle.machine_spec.specs.Pending.{Item, Position, dos}
use Rattle.machine_spec.specs.Places.{Places, at_place, put, place, running}
use Rattle.machine_spec.specs.Evaluate.{evaluated}
use Rattle.machine_spec.specs.Step.{Moment, position, opens_level, moved, moved_with_room, act, view_of, row, execute, execute_first, step_by, step}
use Rattle.machine_spec.specs.Tasks.{Task, levels}
use Rattle.machine_spec.specs.Words.{Drawn, seen_words}
use Rattle.machine_spec.specs.World.{World}
use Rattle.project_spec.specs.Trees.{Sheet, target_of_link, script, statement}
use Rattle.project_spec.proofs.Unrolling.{script-at}
use Rattle.project_check.specs.declared.project.Project.{Project}
use Rattle.project_check.specs.Loaded.{program_of}
use Rattle.thread_frames.specs.Levels.{top_block, top_context, near_params, without_top}
use Rattle.thread_frames.specs.Reading.{params_in, first_item, beneath, pending, task}
use Rattle.thread_frames.specs.Fit.{kind_of}
use Rattle.thread_frames.specs.Threads.{Thread, frames}
use Rattle.machine_spec.specs.Starting.{open_levels}
use Rattle.thread_moves.specs.Ranked.{IsRanked}
use Rattle.thread_moves.specs.Standing.{IsAt, TopHolds}
use Rattle.thread_moves.proofs.Items.{at_block as items_at_block}
use Rattle.executions.specs.declared.state.State.{State}
use Rattle.executions.specs.declared.runner.Runner.{Runner}
use Rattle.executions.specs.Runners.{IsWho, IsRunnerAfter}
use Rattle.executions.specs.Seen.{sheets, seen_threads, seen}
use Rattle.executions.specs.Ready.{IsReady, IsAfter}
use Rattle.thread_moves.specs.Moves.{with_levels, Moved}
use Rattle.executions.specs.Room.{room_for}
use Rattle.executions.specs.Rows.{with_tasks, Leaves, enacts, Enacts}
use Rattle.executions.proofs.Keeping.{kept_leaves}
use Rattle.executions.proofs.Runs.{runner_after}
use Rattle.executions.proofs.Stops.{stop-then, stop-same}
use Rattle.machine_spec.proofs.Placing.{running_seen, running_put, place_put, put_at, put_put}
use Rattle.executions.proofs.Worlds.{moved_is, after}
use Rattle.executions.proofs.Counted.{open_seen}
use Rattle.executions.proofs.Firsts.{first_executes, params_seen}
use Rattle.executions.proofs.Taking.{holds_by, holds_before, without}

-- a control of its own thread moves it, with room for a level
own_acts : (p : Program) (i : ℕ) (late : Bool) (t : Task) (s : Statement) (r : List Item) (control : Control) (c : Context) (w : World Task) → is_own control ≡ true
    → act p i late t s r control c w ≡ moved_with_room (opens_level control) i (position p late t.warp s r control c) w
own_acts p i late t s r Next c w h = refl
own_acts p i late t s r (Branch n is_loop) c w h = refl
own_acts p i late t s r Yield c w h = refl
own_acts p i late t s r YieldTick c w h = refl
own_acts p i late t s r Promise c w h = refl
own_acts p i late t s r (Call definition params) c w h = refl
own_acts p i late t s r StopThis c w h = refl
own_acts p i late t s r StopOthers c w h = absurd (cc)
own_acts p i late t s r StopAll c w h = absurd (cc)
own_acts p i late t s r DeleteClone c w h = absurd (cc)
own_acts p i late t s r (Start hats wait) c w h = absurd (cc)
own_acts p i late t s r (Clone original) c w h = absurd (cc)

has_room : {A : Type 0} (n : ℕ) (x : A) → n < most_levels → with_room n x ≡ Goes x
has_room n x lt = let e : nat_lt n most_levels ≡ true = grind (arith, nat_tests) in rw e refl

with_room_goes : (opens : Bool) (i : ℕ) (x : Position) (w : World Task) → (opens ≡ true → levels w < most_levels) → moved_with_room opens i x w ≡ Goes (moved i x w)
with_room_goes true i x w lt = has_room (levels w) (moved i x w) (lt refl)
with_room_goes false i x w lt = refl

full_by : {A B : Type 0} (b : Bool) (x : A) (y : B) → (if b then Goes x else Full) ≡ Full → (if b then Goes y else Full) ≡ Full
full_by true x y h = absurd (cc h)
full_by false x y h = refl

room_stops : (T U : Type 0) (stop : Stop) (opens : Bool) (i : ℕ) (x : Position) (w : World Task) (n : ℕ) → n ≡ levels w → StopIs {T = T} (Err stop) (room_for opens n) → StopIs {T = U} (Err stop) (moved_with_room opens i x w)
room_stops T U stops.Stack true i x w n e h = full_by (nat_lt (levels w) most_levels) tt (moved i x w) (ap (λ m. with_room m tt) (sym e) ∙ h)
room_stops T U stops.Stack false i x w n e h = absurd (cc h)
room_stops T U (stops.Text k) true i x w n e h = absurd (no_text (nat_lt n most_levels) h)
  where
    no_text : (b : Bool) → (if b then Goes (tt {0}) else Full) ≡ TooLong k → ⊥
    no_text true h = cc h
    no_text false h = cc h
room_stops T U (stops.Text k) false i x w n e h = absurd (cc h)
room_stops T U (stops.Counter which) true i x w n e h = absurd (no_number (nat_lt n most_levels) h)
  where
    no_number : (b : Bool) → (if b then Goes (tt {0}) else Full) ≡ Spent which → ⊥
    no_number true h = cc h
    no_number false h = cc h
room_stops T U (stops.Counter which) false i x w n e h = absurd (cc h)
room_stops T U stops.NoMemory opens i x w n e h = tt

module _ {R : Type 0} (stream : R → Stream) (p : Project) (i k : ℕ) (late : Bool) (w : State R) (ready : IsReady p i w) (holds : top_block ready.thread.levels ≡ Some k) (ranked : IsRanked (sheets p ready.thread.target)) where
  abbrev pub sheet : Sheet
  sheet = sheets p ready.thread.target

  abbrev pub th : TopHolds sheet ready.thread.levels k
  th = holds_by sheet ready.thread.levels k ready.ready holds

  abbrev pub s : Statement
  s = statement sheet k th.block

  abbrev pub rest : Script
  rest = script sheet (target_of_link th.block.next)

  abbrev pub r : List Item
  r = dos rest ++ beneath sheet (without_top ready.thread.levels)

  abbrev pub t : Task
  t = task (sheets p) ready.thread

  abbrev pub params : Params
  params = unwrap_or (near_params ready.thread.levels) []

  pub script_is : script sheet (Some k) ≡ Then s rest
  script_is = script-at sheet ranked.ranks ranked.falls k th.block th.found

  items_are : t.items ≡ first_item th.top s ∷ dos rest ++ beneath sheet th.under
  items_are = ap (pending sheet) th.is ∙ ap (λ x. x ++ beneath sheet th.under) (items_at_block sheet (first_item th.top) th.top.block k th.block th.holds th.found)

  before_is : th.before ≡ th.top.context
  before_is = holds_before sheet ready.thread.levels k ready.ready holds

  fits_is : top_fits th.top.context th.top.is_loop (kind_of th.block) ≡ true
  fits_is = ap (λ c. top_fits c th.top.is_loop (kind_of th.block)) (sym before_is) ∙ th.fits

  params_fit : is_some th.top.params ≡ is_called th.top.context
  params_fit = th.params ∙ ap is_called before_is

  pub step_is : step (program_of p) i late (seen stream p w) ≡ execute (program_of p) i late t s (top_context ready.thread.levels) params r (seen stream p w)
  step_is =
      ap (λ o. step_by (program_of p) i late o (seen stream p w)) (running_seen (task (sheets p)) i w.threads ∙ ap (option_map (task (sheets p))) ready.found)
      ∙ ap (λ l. execute_first (program_of p) i late t l (seen stream p w)) items_are
      ∙ first_executes (program_of p) i late t th.top.is_loop th.top.context (kind_of th.block) (params_in th.top) s (dos rest ++ beneath sheet th.under) (seen stream p w) fits_is
      ∙ ap (λ x. execute (program_of p) i late t s th.top.context x (dos rest ++ beneath sheet th.under) (seen stream p w)) (params_seen sheet th.top th.under th.block th.below params_fit)
      ∙ (λ j. execute (program_of p) i late t s (top_context (sym th.is j)) (unwrap_or (near_params (sym th.is j)) []) (dos rest ++ beneath sheet (without_top (sym th.is j))) (seen stream p w))

  -- the inputs are evaluated first
  abbrev pub values_of : Outcome (Drawn Arguments)
  values_of = evaluated (view_of (program_of p) t params (seen stream p w)) s (seen_words stream w.words)

  pub step_enacts : (a : Arguments) (words : Counted R) → values_of ≡ Goes (record { value = a; words = seen_words stream words })
      → step (program_of p) i late (seen stream p w) ≡ enacts stream p i late ready.thread s r a (record w { words = words })
  step_enacts a words values =
      step_is
      ∙ ap (λ o. then_do o (λ d. then_do (row (program_of p) (command_of s) d.value ready.thread.of ready.thread.serial (top_context ready.thread.levels) (record (seen stream p w) { words = d.words })) (λ x. act (program_of p) i late t s r x.control x.context x.world))) values

  pub step_stops : (T U : Type 0) (stop : Stop) → StopIs {T = T} (Err stop) values_of → StopIs {T = U} (Err stop) (step (program_of p) i late (seen stream p w))
  step_stops T U stop h = stop-same U U stop _ _ step_is (stop-then T U stop values_of _ h)

  -- the statement and what follows it, however they are told
  pub told : (a : Arguments) (P : Outcome (Moment (World Task)) → Type 0) → P (enacts stream p i late ready.thread s r a w) → Enacts stream p i k late a w P
  told a P h u z after found e =
      let same : ready.thread ≡ u = cc (sym ready.found ∙ found) in
      let both_are : Then s rest ≡ Then z after = sym script_is ∙ ap (λ x. script (sheets p x.target) (Some k)) same ∙ e in
      let first : s ≡ z = cc both_are in
      let then_is : rest ≡ after = cc both_are in
      subst P (λ j. enacts stream p i late (same j) (first j) (dos (then_is j) ++ beneath (sheets p (same j).target) (without_top (same j).levels)) a w) h

  -- then the row applies, and its control acts
  module _ (a : Arguments) (applied_state : State R) (control : Control) (context : Context)
      (row_is : row (program_of p) (command_of s) a ready.thread.of ready.thread.serial (top_context ready.thread.levels) (seen stream p w)
      ≡ Goes (record { world = with_tasks stream p applied_state (seen_threads p w.threads); context = context; control = control })) where
    abbrev pub acting : State R
    acting = record applied_state { threads = w.threads }

    pub row_acts : enacts stream p i late ready.thread s r a w ≡ act (program_of p) i late t s r control context (seen stream p acting)
    row_acts = ap (λ o. then_do o (λ x. act (program_of p) i late t s r x.control x.context x.world)) row_is

    module _ (own : is_own control ≡ true) where
      open_is : open_levels frames w.threads ≡ levels (seen stream p acting)
      open_is = sym (open_seen p w.threads ready.kept.threads)

      pub own_stops : (T U : Type 0) (stop : Stop) (mid : Places Thread) → open_levels frames mid ≡ open_levels frames w.threads → StopIs {T = T} (Err stop) (room_for (opens_level control) (open_levels frames mid)) → StopIs {T = U} (Err stop) (enacts stream p i late ready.thread s r a w)
      own_stops T U stop mid same h =
          stop-same U U stop _ _ (row_acts ∙ own_acts (program_of p) i late t s r control context (seen stream p acting) own)
          (room_stops T U stop (opens_level control) i (position (program_of p) late t.warp s r control context) (seen stream p acting) (open_levels frames mid) (same ∙ open_is) h)

      module _ (which : Which) (at : which ≡ place i w.threads) (mid : Places Thread) (mid_is : mid ≡ put which (without ready.thread) w.threads) (ts : Places Thread) (report : Report)
          (m : Moved p which mid ts (position (program_of p) late t.warp s r control context) report) (left : Leaves (record w { threads = mid }) applied_state) where
        abbrev pub last : State R
        last = record applied_state { threads = ts }

        before : m.before ≡ without ready.thread
        before = let here : at_place which mid ≡ Some (without ready.thread) = ap (at_place which) mid_is ∙ put_at which w.threads ready.thread (without ready.thread) (ap (λ z. at_place z w.threads) at ∙ ready.found) in cc (sym m.found ∙ here)

        ts_is : ts ≡ put (place i w.threads) (with_levels m.levels report ready.thread) w.threads
        ts_is = m.new_is ∙ ap (λ x. put which (with_levels m.levels report x) mid) before ∙ ap (put which (with_levels m.levels report ready.thread)) mid_is ∙ put_put which w.threads (without ready.thread) (with_levels m.levels report ready.thread) ∙ ap (λ z. put z (with_levels m.levels report ready.thread) w.threads) at

        stands_is : IsAt (sheets p ready.thread.target) (position (program_of p) late t.warp s r control context) m.levels report
        stands_is = subst (λ x. IsAt (sheets p x.target) (position (program_of p) late t.warp s r control context) m.levels report) before m.stands

        pub own_goes : (opens_level control ≡ true → open_levels frames mid < most_levels) → open_levels frames mid ≡ open_levels frames w.threads → enacts stream p i late ready.thread s r a w ≡ Goes (record { world = seen stream p last; report = report })
        own_goes room same =
            row_acts ∙ own_acts (program_of p) i late t s r control context (seen stream p acting) own
            ∙ with_room_goes (opens_level control) i (position (program_of p) late t.warp s r control context) (seen stream p acting) (λ e. (let lt = room e in omega (arith, lt, same, open_is)))
            ∙ ap Goes (moved_is stream p i acting ts ready.thread (position (program_of p) late t.warp s r control context) m.levels report stands_is ready.found ts_is)

        pub own_after : IsAfter p i report last
        own_after = after p ready.thread (position (program_of p) late t.warp s r control context) m.levels report stands_is i acting ts ready.found ts_is ready.alive
            (kept_leaves p w acting ready.kept (record { threads = refl; next_thread = left.next_thread; next_instance = left.next_instance; targets = left.targets; one_each = left.one_each; free = left.free }))

        -- the runner of the thread is one still, or the thread has ended
        pub own_runs : (x : Runner) → x.which ≡ place i w.threads → IsWho x ready.thread → IsRunnerAfter p i report x last
        own_runs x there who =
            runner_after p i x last (there ∙ sym (ap (place i) ts_is ∙ place_put i w.threads (with_levels m.levels report ready.thread))) (with_levels m.levels report ready.thread)
            (ap (running i) ts_is ∙ running_put i w.threads ready.thread (with_levels m.levels report ready.thread) ready.found)
            (record { target_is = who.target_is; here_is = who.here_is; serial_is = who.serial_is }) report own_after
