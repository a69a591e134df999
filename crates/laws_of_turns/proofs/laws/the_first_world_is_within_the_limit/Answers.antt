use Rattle.laws_of_turns.proofs.First.{first_within}
use Rattle.laws_of_turns.proofs.laws.the_first_world_is_within_the_limit.Goals as goal

pub returns : goal.returns
returns c = first_within
