use Rattle.laws_of_words.proofs.Sourced.{told}
use Rattle.laws_of_words.proofs.laws.words_of_a_seed_are_told_by_their_number.Goals as goal

pub returns : goal.returns
returns c = told
