-- The running thread holds a block.
use Rattle.std.proofs.Common.{sym, ap, ◌∙◌}
use Rattle.machine_spec.specs.Places.{at_place}
use Rattle.thread_frames.specs.Levels.{top_block, warp_flag}
use Rattle.thread_frames.specs.Threads.{levels_of}
use Rattle.frames.proofs.Slices.{ready_block}
use Rattle.frames.proofs.thread_slices.slice.Goals as goal

pub slice_from-requires-clause-block : goal.slice_from-requires-clause-block
slice_from-requires-clause-block g c = ap (λ z. top_block (levels_of (at_place z c.args.state.now.threads))) (sym c.place.ensures) ∙ sym c.head-top.ensures.block ∙ c.in-Some.is

pub slice_from-requires-clause-flag : goal.slice_from-requires-clause-flag
slice_from-requires-clause-flag g c = c.head-top.ensures.warp ∙ ap (λ z. warp_flag (levels_of (at_place z c.args.state.now.threads))) c.place.ensures

pub unreachable-requires : goal.unreachable-requires
unreachable-requires g c = ready_block c.args.project.now c.args.slot c.args.state.now c.requires (ap (λ z. top_block (levels_of (at_place z c.args.state.now.threads))) (sym c.place.ensures) ∙ sym c.head-top.ensures.block ∙ c.in-None.is)
