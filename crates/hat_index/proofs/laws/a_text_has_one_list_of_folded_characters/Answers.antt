use Rattle.hat_index.proofs.Folding.{folded-same}
use Rattle.hat_index.proofs.laws.a_text_has_one_list_of_folded_characters.Goals as goal

pub returns : goal.returns
returns c = folded-same
