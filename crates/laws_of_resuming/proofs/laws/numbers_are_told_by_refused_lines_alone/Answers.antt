use Rattle.laws_of_resuming.proofs.Numbers.{lines_moved}
use Rattle.laws_of_resuming.proofs.laws.numbers_are_told_by_refused_lines_alone.Goals as goal

pub returns : goal.returns
returns c p k n last w lines = lines_moved p k n last w lines
