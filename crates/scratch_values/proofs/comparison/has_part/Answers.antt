use Rattle.scratch_values.proofs.Parts.{part_searched}
use Rattle.scratch_values.proofs.comparison.has_part.Goals as goal

pub returns : goal.returns
returns c = λ xs ys e f. rw c.is_some.ensures (part_searched xs ys _ _ _ c.utf8.whole e f c.find.ensures.cases)
