-- A block whose kind keeps nothing, and a block of data, behind which the thread goes on.
use Rattle.std.proofs.Common.{◌≡◌, ℕ, Bool, true, Some, Err, refl, sym, ap, ◌∙◌, subst}
use Rattle.std.specs.Prelude.{slice_get}
use Rattle.rand_core.specs.Stream.{Stream}
use Rattle.script_words.specs.declared.stops.Stop.{Stop}
use Rattle.scratch_values.specs.Named.{Arguments}
use Rattle.opcode_table.specs.declared.groups.Group.TheVariants.{Data, Motion}
use Rattle.opcode_table.specs.declared.kinds.Kind.TheVariants.{Plain}
use Rattle.opcode_table.specs.declared.opcode.Opcode.{Opcode}
use Rattle.opcode_table.specs.declared.opcode.Opcode.TheVariants.{DataSetVariableTo, DataChangeVariableBy, DataShowVariable, DataHideVariable, DataAddToList, DataDeleteOfList, DataDeleteAllOfList, DataInsertAtList, DataReplaceItemOfList, DataShowList, DataHideList, MotionMoveSteps, MotionTurnRight, MotionTurnLeft, MotionPointInDirection, MotionGoToXY, MotionChangeXBy, MotionSetX, MotionChangeYBy, MotionSetY}
use Rattle.opcode_table.specs.Kinds.{kind, group}
use Rattle.motion_blocks.specs.Blocks.{is_step}
use Rattle.machine_spec.specs.Outcome.{Goes, StopIs}
use Rattle.machine_spec.specs.declared.threads.Context.{Context}
use Rattle.machine_spec.specs.declared.threads.Context.TheVariants.{Fresh}
use Rattle.machine_spec.specs.declared.threads.Control.TheVariants.{Next}
use Rattle.machine_spec.specs.declared.threads.Report.{Report}
use Rattle.machine_spec.specs.declared.threads.Which.{Which}
use Rattle.machine_spec.specs.Pending.{settle}
use Rattle.machine_spec.specs.Places.{at_place, put, place, on_place}
use Rattle.project_spec.specs.declared.blocks.Block.{Block}
use Rattle.project_check.specs.declared.project.Project.{Project}
use Rattle.cached_blocks.specs.declared.block.CachedBlock.{CachedBlock}
use Rattle.cached_blocks.specs.Cached.{cached_block, cached_blocks}
use Rattle.thread_frames.specs.Levels.{on_top, with_context, top_context}
use Rattle.thread_frames.specs.Fit.{kind_of}
use Rattle.thread_frames.specs.Threads.{levels_of, on_levels}
use Rattle.thread_moves.proofs.Moves.{cached_is}
use Rattle.executions.specs.declared.state.State.{State}
use Rattle.executions.specs.declared.execution.Next.{Next as Following}
use Rattle.executions.specs.Choices.{KeepsNothing}
use Rattle.executions.specs.Seen.{sheets, seen}
use Rattle.executions.specs.Ready.{IsReady}
use Rattle.executions.specs.declared.runner.Runner.{Runner}
use Rattle.executions.specs.Runners.{IsRunnerAfter, next_block}
use Rattle.thread_moves.specs.Moves.{IsAtBlock, MovesOn}
use Rattle.executions.specs.Nexts.{next_of}
use Rattle.executions.specs.Rows.{RowGoes, RowStops, Leaves, Enacts}
use Rattle.executions.proofs.Chosen.{plain_keeps}
use Rattle.executions.proofs.Enacting as enacting
use Rattle.executions.proofs.Enacting.{fresh_at, same_levels}
use Rattle.machine_spec.proofs.Placing.{on_is, put_self}
use Rattle.executions.proofs.Steps as steps
use Rattle.executions.proofs.Taking.{without}

data_plain : (o : Opcode) → group o ≡ Data → kind o ≡ Plain
data_plain DataSetVariableTo h = refl
data_plain DataChangeVariableBy h = refl
data_plain DataShowVariable h = refl
data_plain DataHideVariable h = refl
data_plain DataAddToList h = refl
data_plain DataDeleteOfList h = refl
data_plain DataDeleteAllOfList h = refl
data_plain DataInsertAtList h = refl
data_plain DataReplaceItemOfList h = refl
data_plain DataShowList h = refl
data_plain DataHideList h = refl
data_plain o h = absurd (cc h)

pub data_keeps : (o : Opcode) → group o ≡ Data → KeepsNothing (kind o)
data_keeps o h = subst KeepsNothing (sym (data_plain o h)) plain_keeps

-- a block of motion that only moves or turns its instance
step_plain : (o : Opcode) → is_step o ≡ true → kind o ≡ Plain
step_plain MotionMoveSteps h = refl
step_plain MotionTurnRight h = refl
step_plain MotionTurnLeft h = refl
step_plain MotionPointInDirection h = refl
step_plain MotionGoToXY h = refl
step_plain MotionChangeXBy h = refl
step_plain MotionSetX h = refl
step_plain MotionChangeYBy h = refl
step_plain MotionSetY h = refl
step_plain o h = absurd (cc h)

pub step_group : (o : Opcode) → is_step o ≡ true → group o ≡ Motion
step_group MotionMoveSteps h = refl
step_group MotionTurnRight h = refl
step_group MotionTurnLeft h = refl
step_group MotionPointInDirection h = refl
step_group MotionGoToXY h = refl
step_group MotionChangeXBy h = refl
step_group MotionSetX h = refl
step_group MotionChangeYBy h = refl
step_group MotionSetY h = refl
step_group o h = absurd (cc h)

pub step_keeps : (o : Opcode) → is_step o ≡ true → KeepsNothing (kind o)
step_keeps o h = subst KeepsNothing (sym (step_plain o h)) plain_keeps

module _ {R : Type 0} (stream : R → Stream) (p : Project) (i : ℕ) (which : Which) (n : Following) (late : Bool) (a : Arguments) (w : State R) (ready : IsReady p i w) (at : which ≡ place i w.threads)
    (next : next_of (at_place which w.threads) ≡ Some n)
    (b : CachedBlock) (cached : slice_get (cached_blocks (sheets p n.target)) n.id ≡ Some b) (keeps : KeepsNothing (kind b.op)) where
  abbrev facts : enacting.IsNext ready.thread n
  facts = enacting.facts stream p i which n late a w ready at next

  abbrev ranked : Rattle.thread_moves.specs.Ranked.IsRanked (sheets p ready.thread.target)
  ranked = enacting.ranked stream p i which n late a w ready at next

  block_is : b ≡ cached_block (sheets p ready.thread.target) n.id (steps.th stream p i n.id late w ready facts.holds ranked).block
  block_is = cached_is (sheets p ready.thread.target) ready.thread.levels n.id ranked (steps.th stream p i n.id late w ready facts.holds ranked) b (subst (λ t. slice_get (cached_blocks (sheets p t)) n.id ≡ Some b) facts.target_is cached)

  -- the block has kept nothing
  fresh : top_context ready.thread.levels ≡ Fresh
  fresh = fresh_at ready.thread.levels n.id (sheets p ready.thread.target) ready.ready facts.holds (kind b.op) (λ o e. kind_here o e) keeps
    where
      kind_here : (o : Block) → slice_get (sheets p ready.thread.target).blocks n.id ≡ Some o → kind_of o ≡ kind b.op
      kind_here o e =
          let th = steps.th stream p i n.id late w ready facts.holds ranked in
          let same : o ≡ th.block = cc (sym e ∙ th.found) in
          ap kind_of same ∙ ap (λ x. kind x.op) (sym block_is)

  found_here : at_place which w.threads ≡ Some ready.thread
  found_here = ap (λ z. at_place z w.threads) at ∙ ready.found

  -- so that nothing would be taken out
  pub nothing_taken : w.threads ≡ on_place (on_levels (on_top (with_context Fresh))) which w.threads
  nothing_taken =
      let thread_is : without ready.thread ≡ ready.thread = ap (λ ls. record ready.thread { levels = ls }) (same_levels ready.thread.levels fresh) in
      sym (on_is (on_levels (on_top (with_context Fresh))) which w.threads (on_place (on_levels (on_top (with_context Fresh))) which w.threads) ready.thread found_here refl
      ∙ ap (λ t. put which t w.threads) thread_is ∙ put_self which w.threads ready.thread found_here)

  pub keeps_nothing : Fresh ≡ top_context (levels_of (at_place which w.threads))
  keeps_nothing = sym (ap (λ o. top_context (levels_of o)) found_here ∙ fresh)

  pub stands_at : IsAtBlock p which w.threads n.target n.id
  stands_at = enacting.stands_at stream p i which n late a w ready at next w.threads Fresh keeps_nothing nothing_taken b cached

  pub row_stops : (T U : Type 0) (stop : Stop) → ((thread : ℕ) (context : Context) → RowStops {T = T} stream p b a n.here thread context w (Err stop)) → Enacts stream p i n.id late a w (StopIs {T = U} (Err stop))
  row_stops T U stop stops = enacting.row_stops stream p i which n late a w ready at next w.threads Fresh keeps_nothing nothing_taken b cached T U stop (stops n.serial Fresh)

  module _ (new : State R) (goes : (thread : ℕ) (context : Context) → RowGoes stream p b a n.here thread context w Fresh new Next) (left : Leaves w new)
      (last : State R) (report : Report) (moves : MovesOn p which n.target n.id (λ s rest warp. settle rest warp) new.threads last.threads report) (last_is : last ≡ record new { threads = last.threads }) where
    pub goes_on : Enacts stream p i n.id late a w (λ o. o ≡ Goes (record { world = seen stream p last; report = report }))
    goes_on = enacting.own_goes stream p i which n late a w ready at next w.threads Fresh keeps_nothing nothing_taken b cached new Next Fresh (goes n.serial Fresh) refl left last report moves last_is (λ e. absurd (cc e))

    pub goes_after : (r : Runner) → r.which ≡ which → next_block r n.id ≡ n → IsRunnerAfter p i report r last
    goes_after = enacting.own_runs stream p i which n late a w ready at next w.threads Fresh keeps_nothing nothing_taken b cached new Next Fresh (goes n.serial Fresh) refl left last report moves last_is
