use Rattle.laws_of_resuming.proofs.GoingOn.{whole_goes_on}
use Rattle.laws_of_resuming.proofs.laws.lines_go_on_from_the_last_world.Goals as goal

pub returns : goal.returns
returns c p n last w v xs lines more e = whole_goes_on p v more n last w xs lines e
