use Rattle.laws_of_instances.proofs.First.{first_legal}
use Rattle.laws_of_instances.proofs.laws.the_first_world_has_legal_instances.Goals as goal

pub returns : goal.returns
returns c p seed play = first_legal p play seed
