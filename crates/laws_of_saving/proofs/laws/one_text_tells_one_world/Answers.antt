use Rattle.laws_of_saving.proofs.Texts.{one_world}
use Rattle.laws_of_saving.proofs.laws.one_text_tells_one_world.Goals as goal

pub returns : goal.returns
returns c = one_world
