-- The block of the running thread: its row, and the control of its own thread.
use Rattle.std.proofs.Common.{◌≡◌, ℕ, ◌<◌, Bool, true, false, List, [], ◌∷◌, ◌++◌, length, Option, Some, None, Result, Ok, Err, refl, sym, ap, ◌∙◌, subst, arith}
use Rattle.std.specs.Prelude.{slice_get, unwrap_or, nat_lt, ◌==◌, ◌||◌, IfOk}
use Rattle.std.proofs.lemmas.Bool.{eqb-true}
use Rattle.std.proofs.lemmas.Bool.Decides.{nat_tests}
use Rattle.rand_core.specs.Stream.{Stream}
use Rattle.script_words.specs.declared.counter.Counted.{Counted}
use Rattle.script_words.specs.declared.stops.Stop.{Stop}
use Rattle.scratch_values.specs.Named.{Arguments}
use Rattle.machine_spec.specs.Outcome.{Outcome, Goes, most_levels, StopIs}
use Rattle.machine_spec.specs.Script.{Script, Then, Statement, command_of}
use Rattle.machine_spec.specs.declared.threads.Context.{Context}
use Rattle.machine_spec.specs.declared.threads.Context.TheVariants.{Fresh, Repeat, Wait, Glide, Started, Asked, Spoken, Called}
use Rattle.machine_spec.specs.declared.threads.Control.{Control}
use Rattle.machine_spec.specs.declared.threads.Control.TheVariants.{Clone}
use Rattle.machine_spec.specs.declared.threads.Report.{Report}
use Rattle.machine_spec.specs.declared.threads.Which.{Which}
use Rattle.opcode_table.specs.declared.kinds.Kind.{Kind}
use Rattle.opcode_table.specs.declared.kinds.Kind.TheVariants.{Counted as CountedKind, Calls, Waits, Glides, Starts, Asks, Speaks}
use Rattle.opcode_table.specs.Kinds.{kind}
use Rattle.block_arguments.specs.Afresh.{was_afresh}
use Rattle.machine_spec.specs.Keeping.{top_fits}
use Rattle.machine_spec.specs.Evaluate.{evaluated}
use Rattle.machine_spec.specs.Threads.{Params}
use Rattle.machine_spec.specs.View.{View}
use Rattle.machine_spec.specs.Words.{Drawn, seen_words}
use Rattle.machine_spec.specs.Laws.{is_own}
use Rattle.machine_spec.specs.Pending.{Item, dos}
use Rattle.machine_spec.specs.Places.{Places, at_place, put, place, running, on_place}
use Rattle.machine_spec.specs.Starting.{open_levels}
use Rattle.machine_spec.specs.Step.{Moment, position, opens_level, row, act, step}
use Rattle.machine_spec.specs.Tasks.{Task}
use Rattle.machine_spec.specs.World.{World}
use Rattle.project_spec.specs.declared.blocks.Block.{Block}
use Rattle.project_spec.specs.Trees.{Sheet, script}
use Rattle.project_spec.proofs.Unrolling.{held_at}
use Rattle.project_check.specs.declared.project.Project.{Project}
use Rattle.project_check.specs.Loaded.{program_of, ranks_at}
use Rattle.project_check.proofs.Linked.{closed_at, ranked_at}
use Rattle.cached_blocks.specs.declared.block.CachedBlock.{CachedBlock}
use Rattle.cached_blocks.specs.Cached.{cached_block, cached_blocks}
use Rattle.targets.specs.Live.{IsLive}
use Rattle.thread_frames.specs.declared.level.Level.{Level}
use Rattle.thread_frames.specs.Levels.{on_top, with_context, without_top, top_block, top_context, near_params, warp_flag}
use Rattle.thread_frames.specs.Reading.{beneath, task}
use Rattle.thread_frames.specs.Fit.{kind_of, top_at, IsHeld, IsReadyAt}
use Rattle.thread_moves.proofs.Items.{block_at_is}
use Rattle.thread_frames.specs.Threads.{Thread, frames, levels_of, on_levels}
use Rattle.thread_frames.proofs.Opening.{open_in, open-put, length-on_top}
use Rattle.thread_moves.specs.Ranked.{IsRanked}
use Rattle.thread_moves.proofs.Moves.{cached_is}
use Rattle.executions.specs.declared.state.State.{State}
use Rattle.executions.specs.declared.execution.Next.{Next}
use Rattle.executions.specs.Seen.{sheets, seen_threads, seen}
use Rattle.executions.specs.Choices.{KeepsNothing}
use Rattle.executions.specs.Ready.{IsReady}
use Rattle.thread_moves.specs.Moves.{IsAtBlock, Moved, MovesOn}
use Rattle.executions.specs.Room.{room_for}
use Rattle.executions.specs.Nexts.{next_by, next_of}
use Rattle.executions.specs.declared.runner.Runner.{Runner}
use Rattle.executions.specs.Runners.{IsWho, IsRunnerAfter, next_block}
use Rattle.executions.specs.Rows.{with_tasks, RowGoes, RowStops, Leaves, may_clone, enacts, Enacts, Acts}
use Rattle.executions.proofs.Keeping.{kept_leaves, kept_here}
use Rattle.machine_spec.proofs.Placing.{put_at, put_self}
use Rattle.executions.proofs.Stops.{stop-then, stop-same}
use Rattle.executions.proofs.Taking.{without, found, mid_is, at_block, listing}
use Rattle.executions.proofs.Steps as steps

-- a block that acts on others had kept nothing
afresh_fits : (c : Context) (m : Bool) (k : Kind) → top_fits c m k ≡ true → was_afresh k c ≡ true → c ≡ Fresh
afresh_fits Fresh m k h e = refl
afresh_fits (Repeat x) true CountedKind h e = absurd (cc)
afresh_fits (Wait x) false Waits h e = absurd (cc)
afresh_fits (Glide x) false Glides h e = absurd (cc)
afresh_fits (Started []) m k h e = absurd (no_list m k h)
  where
    no_list : (m : Bool) (k : Kind) → top_fits (Started []) m k ≡ true → ⊥
    no_list true k h = cc h
    no_list false k h = cc h
afresh_fits (Started (x ∷ xs)) false Starts h e = absurd (cc)
afresh_fits Asked false Asks h e = absurd (cc)
afresh_fits Spoken false Speaks h e = absurd (cc)
afresh_fits Called false Calls h e = absurd (cc)
afresh_fits c m k h e = absurd (cc)

pub fresh_by : (ls : List Level) (k : ℕ) (sheet : Sheet) → IsReadyAt sheet ls → top_block ls ≡ Some k → (kind_is : Kind) → ((o : Block) → slice_get sheet.blocks k ≡ Some o → kind_of o ≡ kind_is) → was_afresh kind_is (top_context ls) ≡ true → top_context ls ≡ Fresh
fresh_by [] k sheet h e kind_is same afresh = refl
fresh_by (l ∷ ls) k sheet h e kind_is same afresh =
    let (o, at) = held_at sheet.blocks k (subst (IsHeld sheet) e h.fit.0.held) in
    let fits : top_fits l.context l.is_loop (kind_of o) ≡ true = ap (λ x. top_at x l.context l.is_loop) (sym (block_at_is sheet l.block k o e at)) ∙ h.fit.0.fits in
    afresh_fits l.context l.is_loop kind_is (ap (top_fits l.context l.is_loop) (sym (same o at)) ∙ fits) afresh

-- nor had one whose kind keeps nothing
pub fresh_at : (ls : List Level) (k : ℕ) (sheet : Sheet) → IsReadyAt sheet ls → top_block ls ≡ Some k → (kind_is : Kind) → ((o : Block) → slice_get sheet.blocks k ≡ Some o → kind_of o ≡ kind_is) → KeepsNothing kind_is → top_context ls ≡ Fresh
fresh_at [] k sheet h e kind_is same keeps = refl
fresh_at (l ∷ ls) k sheet h e kind_is same keeps =
    let (o, at) = held_at sheet.blocks k (subst (IsHeld sheet) e h.fit.0.held) in
    let fits : top_fits l.context l.is_loop (kind_of o) ≡ true = ap (λ x. top_at x l.context l.is_loop) (sym (block_at_is sheet l.block k o e at)) ∙ h.fit.0.fits in
    keeps l.context l.is_loop (ap (top_fits l.context l.is_loop) (sym (same o at)) ∙ fits)

pub same_levels : (ls : List Level) → top_context ls ≡ Fresh → on_top (with_context Fresh) ls ≡ ls
same_levels [] e = refl
same_levels (l ∷ ls) e = ap (λ c. record l { context = c } ∷ ls) (sym e)

-- what a thread executes next is its top block
pub record IsNext (t : Thread) (n : Next) : Type 0 where
  pub holds : top_block t.levels ≡ Some n.id
  pub target_is : n.target ≡ t.target
  pub here_is : n.here ≡ t.of
  pub serial_is : n.serial ≡ t.serial

next_facts : (t : Thread) (n : Next) (o : Option ℕ) → top_block t.levels ≡ o → next_by t o ≡ Some n → IsNext t n
next_facts t n None e h = absurd (cc h)
next_facts t n (Some k) e h =
    let same : record { target = t.target; here = t.of; serial = t.serial; id = k } ≡ n = cc h in
    record {
      holds = e ∙ ap (λ (x : Next). Some x.id) same;
      target_is = ap (λ (x : Next). x.target) (sym same);
      here_is = ap (λ (x : Next). x.here) (sym same);
      serial_is = ap (λ (x : Next). x.serial) (sym same);
    }

warp_taken : (ls : List Level) → warp_flag (on_top (with_context Fresh) ls) ≡ warp_flag ls
warp_taken [] = refl
warp_taken (l ∷ ls) = refl

rest_taken : (ls : List Level) → without_top (on_top (with_context Fresh) ls) ≡ without_top ls
rest_taken [] = refl
rest_taken (l ∷ ls) = refl

module _ {R : Type 0} (stream : R → Stream) (p : Project) (i : ℕ) (which : Which) (n : Next) (late : Bool) (a : Arguments) (w : State R) (ready : IsReady p i w) (at : which ≡ place i w.threads)
    (next : next_of (at_place which w.threads) ≡ Some n) where
  pub facts : IsNext ready.thread n
  facts = next_facts ready.thread n (top_block ready.thread.levels) refl (sym (ap next_of (ap (λ z. at_place z w.threads) at ∙ ready.found)) ∙ next)

  pub ranked : IsRanked (sheets p ready.thread.target)
  ranked = subst (λ t. IsRanked (sheets p t)) facts.target_is (record { ranks = ranks_at n.target p; falls = ranked_at p n.target; closed = closed_at p n.target })

  who_is : (r : Runner) → next_block r n.id ≡ n → IsWho r ready.thread
  who_is r same = record {
    target_is = ap (λ (x : Next). x.target) same ∙ facts.target_is;
    here_is = ap (λ (x : Next). x.here) same ∙ facts.here_is;
    serial_is = ap (λ (x : Next). x.serial) same ∙ facts.serial_is;
  }

  -- its instance is live
  pub here_live : IsLive n.here w.targets
  here_live = subst (λ m. IsLive m w.targets) (sym facts.here_is) (kept_here p w ready.kept (place i w.threads) ready.thread ready.found ready.alive)

  -- what is shown of the thread's statement holds however it is told
  pub told : (P : Outcome (Moment (World Task)) → Type 0)
      → P (enacts stream p i late ready.thread (steps.s stream p i n.id late w ready facts.holds ranked) (steps.r stream p i n.id late w ready facts.holds ranked) a w)
      → Enacts stream p i n.id late a w P
  told P h = steps.told stream p i n.id late w ready facts.holds ranked a P h

  -- what the inputs of the block are evaluated on
  abbrev pub view_here : Params → View
  view_here ps = record { records = (program_of p).records; targets = w.targets; variables = w.variables; devices = w.devices; here = n.here; params = ps }

  module _ (ps : Option Params) (near : ps ≡ near_params (levels_of (at_place which w.threads))) where
    values_here : (o : Outcome (Drawn Arguments)) → ((s : Statement) (rest : Script) → script (sheets p n.target) (Some n.id) ≡ Then s rest → evaluated (view_here (unwrap_or ps [])) s (seen_words stream w.words) ≡ o) → steps.values_of stream p i n.id late w ready facts.holds ranked ≡ o
    values_here o values =
        let s = steps.s stream p i n.id late w ready facts.holds ranked in
        let rest = steps.rest stream p i n.id late w ready facts.holds ranked in
        let levels_are : levels_of (at_place which w.threads) ≡ ready.thread.levels = ap levels_of (ap (λ z. at_place z w.threads) at ∙ ready.found) in
        (λ j. evaluated (record { records = (program_of p).records; targets = w.targets; variables = w.variables; devices = w.devices; here = sym facts.here_is j; params = unwrap_or (sym (near ∙ ap near_params levels_are) j) [] }) s (seen_words stream w.words))
        ∙ values s rest (subst (λ t. script (sheets p t) (Some n.id) ≡ Then s rest) (sym facts.target_is) (steps.script_is stream p i n.id late w ready facts.holds ranked))

    pub executes : (words : Counted R) → ((s : Statement) (rest : Script) → script (sheets p n.target) (Some n.id) ≡ Then s rest → evaluated (view_here (unwrap_or ps [])) s (seen_words stream w.words) ≡ Goes (record { value = a; words = seen_words stream words }))
        → (P : Outcome (Moment (World Task)) → Type 0) → Enacts stream p i n.id late a (record w { words = words }) P → P (step (program_of p) i late (seen stream p w))
    executes words values P acts =
        subst P (sym (steps.step_enacts stream p i n.id late w ready facts.holds ranked a words (values_here _ values)))
        (acts ready.thread (steps.s stream p i n.id late w ready facts.holds ranked) (steps.rest stream p i n.id late w ready facts.holds ranked) ready.found (steps.script_is stream p i n.id late w ready facts.holds ranked))

    pub stops_here : (T U : Type 0) (stop : Stop) → ((s : Statement) (rest : Script) → script (sheets p n.target) (Some n.id) ≡ Then s rest → StopIs {T = T} (Err stop) (evaluated (view_here (unwrap_or ps [])) s (seen_words stream w.words))) → StopIs {T = U} (Err stop) (step (program_of p) i late (seen stream p w))
    stops_here T U stop stops =
        let s = steps.s stream p i n.id late w ready facts.holds ranked in
        let rest = steps.rest stream p i n.id late w ready facts.holds ranked in
        steps.step_stops stream p i n.id late w ready facts.holds ranked T U stop
        (stop-same T T stop _ _ (values_here _ (λ z after e. refl_of z after e))
        (stops s rest (subst (λ t. script (sheets p t) (Some n.id) ≡ Then s rest) (sym facts.target_is) (steps.script_is stream p i n.id late w ready facts.holds ranked))))
      where
        refl_of : (z : Statement) (after : Script) → script (sheets p n.target) (Some n.id) ≡ Then z after → evaluated (view_here (unwrap_or ps [])) z (seen_words stream w.words) ≡ evaluated (view_here (unwrap_or ps [])) (steps.s stream p i n.id late w ready facts.holds ranked) (seen_words stream w.words)
        refl_of z after e =
            let both_are : Then z after ≡ Then (steps.s stream p i n.id late w ready facts.holds ranked) (steps.rest stream p i n.id late w ready facts.holds ranked) = sym e ∙ subst (λ t. script (sheets p t) (Some n.id) ≡ Then (steps.s stream p i n.id late w ready facts.holds ranked) (steps.rest stream p i n.id late w ready facts.holds ranked)) (sym facts.target_is) (steps.script_is stream p i n.id late w ready facts.holds ranked) in
            let same : z ≡ steps.s stream p i n.id late w ready facts.holds ranked = cc both_are in
            ap (λ x. evaluated (view_here (unwrap_or ps [])) x (seen_words stream w.words)) same

  module _ (mid : Places Thread) (context : Context) (context_is : context ≡ top_context (levels_of (at_place which w.threads))) (taken : mid ≡ on_place (on_levels (on_top (with_context Fresh))) which w.threads)
      (b : CachedBlock) (cached : slice_get (cached_blocks (sheets p n.target)) n.id ≡ Some b) where
    pub stands_at : IsAtBlock p which mid n.target n.id
    stands_at = subst (λ t. IsAtBlock p which mid t n.id) (sym facts.target_is) (at_block p i n.id w ready facts.holds which at mid taken)

    abbrev s_ : Statement
    s_ = steps.s stream p i n.id late w ready facts.holds ranked

    abbrev r_ : List Item
    r_ = steps.r stream p i n.id late w ready facts.holds ranked

    block_is : b ≡ cached_block (sheets p ready.thread.target) n.id (steps.th stream p i n.id late w ready facts.holds ranked).block
    block_is = cached_is (sheets p ready.thread.target) ready.thread.levels n.id ranked (steps.th stream p i n.id late w ready facts.holds ranked) b (subst (λ t. slice_get (cached_blocks (sheets p t)) n.id ≡ Some b) facts.target_is cached)

    kept_is : context ≡ top_context ready.thread.levels
    kept_is = context_is ∙ ap (λ o. top_context (levels_of o)) (found p i n.id w ready facts.holds which at mid taken)

    pub row_here : (new : State R) (control : Control) (new_context : Context) → RowGoes stream p b a n.here n.serial context (record w { threads = mid }) new_context new control
        → row (program_of p) (command_of s_) a ready.thread.of ready.thread.serial (top_context ready.thread.levels) (seen stream p w) ≡ Goes (record { world = with_tasks stream p new (seen_threads p w.threads); context = new_context; control = control })
    row_here new control new_context goes =
        (λ j. row (program_of p) (command_of s_) a (sym facts.here_is j) (sym facts.serial_is j) (sym kept_is j) (seen stream p w))
        ∙ goes (command_of s_) (seen_threads p w.threads) (record { op = ap (λ x. x.op) (sym block_is); code = ap (λ x. x.code) (sym block_is); listing = listing p i n.id w ready facts.holds which at mid taken })

    pub row_stops : (T U : Type 0) (stop : Stop) → RowStops {T = T} stream p b a n.here n.serial context (record w { threads = mid }) (Err stop) → Enacts stream p i n.id late a w (StopIs {T = U} (Err stop))
    row_stops T U stop stops =
        told (StopIs {T = U} (Err stop))
        (stop-then T U stop _ _ (stop-same T T stop _ _ (λ j. row (program_of p) (command_of s_) a (sym facts.here_is j) (sym facts.serial_is j) (sym kept_is j) (seen stream p w))
        (stops (command_of s_) (seen_threads p w.threads) (record { op = ap (λ x. x.op) (sym block_is); code = ap (λ x. x.code) (sym block_is); listing = listing p i n.id w ready facts.holds which at mid taken }))))

    same_open : open_levels frames mid ≡ open_levels frames w.threads
    same_open =
        let t = ready.thread in
        let e = open-put which t (without t) w.threads (found p i n.id w ready facts.holds which at mid taken) in
        let m : open_in mid ≡ open_in (put which (without t) w.threads) = ap open_in (mid_is p i n.id w ready facts.holds which at mid taken) in
        omega (arith, e, m, length-on_top (with_context Fresh) t.levels)

    mid_levels : levels_of (at_place which mid) ≡ on_top (with_context Fresh) ready.thread.levels
    mid_levels = ap (λ ts. levels_of (at_place which ts)) (mid_is p i n.id w ready facts.holds which at mid taken) ∙ ap levels_of (put_at which w.threads ready.thread (without ready.thread) (found p i n.id w ready facts.holds which at mid taken))

    module _ (new : State R) (control : Control) (new_context : Context) (goes : RowGoes stream p b a n.here n.serial context (record w { threads = mid }) new_context new control) (own : is_own control ≡ true)
        (left : Leaves (record w { threads = mid }) new) where
      pub own_stops : (T U : Type 0) (stop : Stop) → StopIs {T = T} (Err stop) (room_for (opens_level control) (open_levels frames new.threads)) → Enacts stream p i n.id late a w (StopIs {T = U} (Err stop))
      own_stops T U stop h =
          told (StopIs {T = U} (Err stop))
          (steps.own_stops stream p i n.id late w ready facts.holds ranked a new control new_context (row_here new control new_context goes) own T U stop mid same_open
          (subst (λ ts. StopIs {T = T} (Err stop) (room_for (opens_level control) (open_levels frames ts))) left.threads h))

      module _ (last : State R) (report : Report) (moves : MovesOn p which n.target n.id (λ s rest warp. position (program_of p) late warp s rest control new_context) new.threads last.threads report) (last_is : last ≡ record new { threads = last.threads }) where
        moved_here : Moved p which mid last.threads (position (program_of p) late (warp_flag ready.thread.levels) s_ r_ control new_context) report
        moved_here =
            let m = moves s_ (steps.rest stream p i n.id late w ready facts.holds ranked) (subst (λ t. script (sheets p t) (Some n.id) ≡ Then s_ (steps.rest stream p i n.id late w ready facts.holds ranked)) (sym facts.target_is) (steps.script_is stream p i n.id late w ready facts.holds ranked)) in
            let levels_are : levels_of (at_place which new.threads) ≡ on_top (with_context Fresh) ready.thread.levels = ap (λ ts. levels_of (at_place which ts)) left.threads ∙ mid_levels in
            let warp_is : warp_flag (levels_of (at_place which new.threads)) ≡ warp_flag ready.thread.levels = ap warp_flag levels_are ∙ warp_taken ready.thread.levels in
            let under_is : without_top (levels_of (at_place which new.threads)) ≡ without_top ready.thread.levels = ap without_top levels_are ∙ rest_taken ready.thread.levels in
            subst (λ x. x) (λ j. Moved p which (left.threads j) last.threads (position (program_of p) late (warp_is j) s_ (dos (steps.rest stream p i n.id late w ready facts.holds ranked) ++ beneath (sheets p (facts.target_is j)) (under_is j)) control new_context) report) m

        pub own_goes : (opens_level control ≡ true → open_levels frames new.threads < most_levels) → Enacts stream p i n.id late a w (λ o. o ≡ Goes (record { world = seen stream p last; report = report }))
        own_goes room =
            told (λ o. o ≡ Goes (record { world = seen stream p last; report = report }))
            (steps.own_goes stream p i n.id late w ready facts.holds ranked a new control new_context (row_here new control new_context goes) own which at mid (mid_is p i n.id w ready facts.holds which at mid taken) last.threads report moved_here left
            (λ e. subst (λ ts. open_levels frames ts < most_levels) left.threads (room e)) same_open
            ∙ ap (λ x. Goes (record { world = seen stream p x; report = report })) (sym last_is))

        -- the runner of the thread is one still, or the thread has ended
        pub own_runs : (r : Runner) → r.which ≡ which → next_block r n.id ≡ n → IsRunnerAfter p i report r last
        own_runs r there same =
            subst (IsRunnerAfter p i report r) (sym last_is)
            (steps.own_runs stream p i n.id late w ready facts.holds ranked a new control new_context (row_here new control new_context goes) own which at mid (mid_is p i n.id w ready facts.holds which at mid taken) last.threads report moved_here left r (there ∙ at) (who_is r same))

    -- a control of others: the block had kept nothing, so that nothing was taken
    module _ (new : State R) (control : Control) (new_context : Context) (goes : RowGoes stream p b a n.here n.serial context (record w { threads = mid }) new_context new control)
        (afresh : was_afresh (kind b.op) context ≡ true) (fresh : new_context ≡ Fresh) (left : Leaves (record w { threads = mid }) new) where
      top_is_fresh : top_context ready.thread.levels ≡ Fresh
      top_is_fresh = fresh_by ready.thread.levels n.id (sheets p ready.thread.target) ready.ready facts.holds (kind b.op) (λ o. kind_here o) (ap (was_afresh (kind b.op)) (sym kept_is) ∙ afresh)
        where
          kind_here : (o : Block) → slice_get (sheets p ready.thread.target).blocks n.id ≡ Some o → kind_of o ≡ kind b.op
          kind_here o e =
              let th = steps.th stream p i n.id late w ready facts.holds ranked in
              let same : o ≡ th.block = cc (sym e ∙ th.found) in
              ap kind_of same ∙ ap (λ x. kind x.op) (sym block_is)

      thread_is : without ready.thread ≡ ready.thread
      thread_is = ap (λ ls. record ready.thread { levels = ls }) (same_levels ready.thread.levels top_is_fresh)

      pub threads_same : new.threads ≡ w.threads
      threads_same = left.threads ∙ mid_is p i n.id w ready facts.holds which at mid taken ∙ ap (λ t. put which t w.threads) thread_is ∙ put_self which w.threads ready.thread (found p i n.id w ready facts.holds which at mid taken)

      pub still_ready : IsReady p i new
      still_ready = record {
        thread = ready.thread;
        found = ap (running i) threads_same ∙ ready.found;
        alive = ready.alive;
        ready = ready.ready;
        kept = kept_leaves p w new ready.kept (record { threads = threads_same; next_thread = left.next_thread; next_instance = left.next_instance; targets = left.targets; one_each = left.one_each; free = left.free });
      }

      -- what it makes a clone of is live
      pub clones_live : may_clone n.here (length (program_of p).records.targets) control ≡ true → (original : ℕ) → control ≡ Clone original → IsLive original new.targets
      clones_live may original e = by (original == n.here) refl
        where
          by : (b : Bool) → (original == n.here) ≡ b → IsLive original new.targets
          by true same =
              subst (λ m. IsLive m new.targets) (sym (eqb-true original n.here same ∙ facts.here_is))
              (kept_here p new still_ready.kept (place i new.threads) ready.thread (ap (running i) threads_same ∙ ready.found) ready.alive)
          by false other =
              let lt : nat_lt original (length (program_of p).records.targets) ≡ true = sym (ap (λ b. b || nat_lt original (length (program_of p).records.targets)) other) ∙ ap (may_clone n.here (length (program_of p).records.targets)) (sym e) ∙ may in
              still_ready.kept.people.originals original (grind (arith, nat_tests, lt))

      pub still_next : next_of (at_place which new.threads) ≡ Some n
      still_next = ap (λ ts. next_of (at_place which ts)) threads_same ∙ next

      pub still_at : which ≡ place i new.threads
      still_at = at ∙ ap (place i) (sym threads_same)

      pub others_act : (P : Outcome (Moment (World Task)) → Type 0) → Acts stream p i n.id late control new P → Enacts stream p i n.id late a w P
      others_act P acts =
          told P
          (subst P (sym (steps.row_acts stream p i n.id late w ready facts.holds ranked a new control new_context (row_here new control new_context goes)
          ∙ (λ j. act (program_of p) i late (task (sheets p) ready.thread) s_ r_ control (fresh j) (seen stream p (record new { threads = sym threads_same j })))))
          (acts ready.thread s_ (steps.rest stream p i n.id late w ready facts.holds ranked) (ap (running i) threads_same ∙ ready.found) (steps.script_is stream p i n.id late w ready facts.holds ranked)))

-- answers that were returned as they were

pub both_ok : {T E : Type 0} (result : Result T E) (P Q S : T → Type 0) → ((t : T) → P t → Q t → S t) → IfOk result P → IfOk result Q → IfOk result S
both_ok (Ok t) P Q S f p q = f t p q
both_ok (Err e) P Q S f p q = tt

pub one_ok : {T E : Type 0} (result : Result T E) (P S : T → Type 0) → ((t : T) → P t → S t) → IfOk result P → IfOk result S
one_ok (Ok t) P S f p = f t p
one_ok (Err e) P S f p = tt

pub stops_as : {R A : Type 0} (stream : R → Stream) (p : Project) (i k : ℕ) (late : Bool) (a : Arguments) (w : State R) (result : Result Report Stop) (o : Outcome A)
    → ((stop : Stop) → StopIs {T = Report} (Err stop) o → Enacts stream p i k late a w (StopIs {T = Report} (Err stop))) → StopIs result o → Enacts stream p i k late a w (StopIs result)
stops_as stream p i k late a w (Ok r) o f h = λ t s rest e f. tt
stops_as stream p i k late a w (Err stop) o f h = f stop h

-- what holds of an answer that is Ok
pub of_ok : {T E : Type 0} (result : Result T E) (P : T → Type 0) (t : T) → result ≡ Ok t → IfOk result P → P t
of_ok result P t e h = subst (λ o. IfOk o P) e h
