use Rattle.laws_of_threads.proofs.First.{first_legal}
use Rattle.laws_of_threads.proofs.laws.the_first_world_is_legal.Goals as goal

pub returns : goal.returns
returns c = first_legal
