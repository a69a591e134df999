use Rattle.block_checks.proofs.Marking.{marking_one}
use Rattle.block_checks.proofs.places.mark.Goals as goal

pub returns-then-not-fits : goal.returns-then-not-fits
returns-then-not-fits c = λ b. rw c.if-not-fits.true (marking_one c.args.marks.now c.args.place b c.requires)
