-- A glide that no longer lasts goes to the end that it kept.
use Rattle.std.proofs.Common.{sym, ◌∙◌}
use Rattle.motion_blocks.proofs.Glides.{glide_over}
use Rattle.motion_blocks.proofs.glide_steps.glide.Goals as goal

pub returns-else-lasts-clause-ok : goal.returns-else-lasts-clause-ok
returns-else-lasts-clause-ok c =
    λ w. glide_over c.args.devices.now c.args.seconds _ _ _ _ c.get.result.now c.get-in-Glide.result.now _ _ _ c.in-Glide.is c.get.ensures c.get-in-Glide.ensures
    (sym c.lasts.ensures ∙ c.if-lasts.false) c.end_of-end.ensures (c.arrive.ensures.row w)
