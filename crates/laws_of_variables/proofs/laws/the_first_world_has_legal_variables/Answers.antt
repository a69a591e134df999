use Rattle.laws_of_variables.proofs.First.{first_variables}
use Rattle.laws_of_variables.proofs.laws.the_first_world_has_legal_variables.Goals as goal

pub returns : goal.returns
returns c = first_variables
