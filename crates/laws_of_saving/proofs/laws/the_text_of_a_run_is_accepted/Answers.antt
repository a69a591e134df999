use Rattle.laws_of_saving.proofs.Texts.{text_accepted}
use Rattle.laws_of_saving.proofs.laws.the_text_of_a_run_is_accepted.Goals as goal

pub returns : goal.returns
returns c = text_accepted
