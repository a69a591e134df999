-- The running thread has a slice where its top level holds a block; else it has one empty level, and is done.
use Rattle.std.proofs.Common.{◌≡◌, sym, ap, ◌∙◌, subst}
use Rattle.std.specs.Prelude.{is_some}
use Rattle.std.specs.Result.{IfOk}
use Rattle.machine_spec.specs.Outcome.{Goes, StopIs}
use Rattle.machine_spec.specs.Places.{at_place}
use Rattle.thread_frames.specs.Levels.{top_block, warp_flag}
use Rattle.thread_frames.specs.Threads.{levels_of}
use Rattle.executions.specs.Seen.{seen}
use Rattle.frames.proofs.Turns.{turn_ready, turn_slices, turn_done, turn_kept}
use Rattle.frames.proofs.thread_slices.turn.Goals as goal

pub slice_from-requires-clause-ready : goal.slice_from-requires-clause-ready
slice_from-requires-clause-ready g c = turn_ready g.R.Rng.stream c.args.project.now c.args.warp c.args.slot _ c.requires _ c.place-which.ensures (sym (ap is_some (sym c.head-top.ensures.block ∙ c.in-Some.is)))

pub slice_from-requires-clause-block : goal.slice_from-requires-clause-block
slice_from-requires-clause-block g c = ap (λ z. top_block (levels_of (at_place z c.args.state.now.threads))) (sym c.place-which.ensures) ∙ sym c.head-top.ensures.block ∙ c.in-Some.is

pub slice_from-requires-clause-flag : goal.slice_from-requires-clause-flag
slice_from-requires-clause-flag g c = c.head-top.ensures.warp ∙ ap (λ z. warp_flag (levels_of (at_place z c.args.state.now.threads))) c.place-which.ensures

pub returns-in-Some-clause-ok : goal.returns-in-Some-clause-ok
returns-in-Some-clause-ok g c =
    subst (λ o. IfOk c.slice_from.result (λ _. o ≡ Goes (seen g.R.Rng.stream c.args.project.now c.slice_from.new.state))) (sym (turn_slices g.R.Rng.stream c.args.project.now c.args.warp c.args.slot _ c.requires _ c.place-which.ensures (sym (ap is_some (sym c.head-top.ensures.block ∙ c.in-Some.is))))) c.slice_from.ensures.ok

pub returns-in-Some-clause-stop : goal.returns-in-Some-clause-stop
returns-in-Some-clause-stop g c =
    subst (λ o. StopIs c.slice_from.result o) (sym (turn_slices g.R.Rng.stream c.args.project.now c.args.warp c.args.slot _ c.requires _ c.place-which.ensures (sym (ap is_some (sym c.head-top.ensures.block ∙ c.in-Some.is))))) c.slice_from.ensures.stop

pub returns-in-None-clause-ok : goal.returns-in-None-clause-ok
returns-in-None-clause-ok g c = turn_done g.R.Rng.stream c.args.project.now c.args.warp c.args.slot _ c.requires _ c.place-which.ensures (sym (ap is_some (sym c.head-top.ensures.block ∙ c.in-None.is))) _ c.finish.ensures

pub returns-in-None-clause-kept : goal.returns-in-None-clause-kept
returns-in-None-clause-kept g c = turn_kept g.R.Rng.stream c.args.project.now c.args.warp c.args.slot _ c.requires _ c.place-which.ensures (sym (ap is_some (sym c.head-top.ensures.block ∙ c.in-None.is))) _ c.finish.ensures
