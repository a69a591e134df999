use Rattle.block_checks.proofs.Marking.{marking_inputs}
use Rattle.block_checks.proofs.places.mark_inputs.Goals as goal

pub loop-name-preserved : goal.loop-name-preserved
loop-name-preserved c =
    marking_inputs c.args.blocks.now c.args.holder.now c.args.inputs.now c.loop-name.name-index c.loop-name-item.result _ _ _ c.loop-name-test.true c.loop-name-item.is c.loop-name.invariant (rw c.as_str.ensures at c.mark_input.ensures)
