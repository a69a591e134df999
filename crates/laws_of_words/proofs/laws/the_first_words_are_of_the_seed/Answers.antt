use Rattle.laws_of_words.proofs.Sourced.{first_of_seed}
use Rattle.laws_of_words.proofs.laws.the_first_words_are_of_the_seed.Goals as goal

pub returns : goal.returns
returns c = first_of_seed
