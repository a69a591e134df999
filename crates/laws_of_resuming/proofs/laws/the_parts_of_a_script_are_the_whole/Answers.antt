use Rattle.laws_of_resuming.proofs.Whole.{parts_are_whole}
use Rattle.laws_of_resuming.proofs.laws.the_parts_of_a_script_are_the_whole.Goals as goal

pub returns : goal.returns
returns c p n last w v u xs a b from line part alike = parts_are_whole p n last w v u xs a b from line part alike
