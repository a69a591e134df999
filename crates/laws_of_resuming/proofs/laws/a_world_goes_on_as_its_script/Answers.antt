use Rattle.laws_of_resuming.proofs.Whole.{worlds_go_on}
use Rattle.laws_of_resuming.proofs.laws.a_world_goes_on_as_its_script.Goals as goal

pub returns : goal.returns
returns c p n w v u xs a b from line part alike = worlds_go_on p n w v u xs a b from line part alike
