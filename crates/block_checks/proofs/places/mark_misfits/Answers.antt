use Rattle.std.proofs.Common.{sym, subst}
use Rattle.block_checks.specs.Marks.{IsMarking}
use Rattle.block_checks.proofs.Links.{misfits_are}
use Rattle.block_checks.proofs.Marking.{marking_more}
use Rattle.block_checks.proofs.places.mark_misfits.Goals as goal

pub returns : goal.returns
returns c =
    let x = rw c.as_slice.ensures at c.mark_inputs.ensures in
    subst (λ those. IsMarking those c.args.marks.now c.mark_inputs.new.marks) (sym (misfits_are c.args.blocks.now c.args.holder.now)) (marking_more _ _ _ _ _ c.mark_next.ensures x)
