use Rattle.std.proofs.Common.{take}
use Rattle.block_checks.specs.Marks.{IsMarking, misfits_in}
use Rattle.block_checks.proofs.places.mark_inputs.Given as goal

abbrev pub invariant-loop-name : goal.invariant-loop-name
invariant-loop-name l = IsMarking (misfits_in l.blocks l.holder (take l.name-index l.inputs)) l.fn.marks l.marks
