use Rattle.block_checks.specs.Marks.{AreMarked}
use Rattle.block_checks.proofs.places.misfits.Given as goal

abbrev pub invariant-loop-place : goal.invariant-loop-place
invariant-loop-place l = AreMarked l.blocks l.checked l.place l.marks.items
