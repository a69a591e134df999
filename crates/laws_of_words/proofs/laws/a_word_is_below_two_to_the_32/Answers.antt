use Rattle.laws_of_words.proofs.Sourced.{word_small}
use Rattle.laws_of_words.proofs.laws.a_word_is_below_two_to_the_32.Goals as goal

pub returns : goal.returns
returns c = word_small
