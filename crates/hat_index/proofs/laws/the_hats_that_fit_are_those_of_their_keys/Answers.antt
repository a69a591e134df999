use Rattle.hat_index.proofs.Fitting.{first_found, second_found}
use Rattle.hat_index.proofs.laws.the_hats_that_fit_are_those_of_their_keys.Goals as goal

pub returns-clause-first : goal.returns-clause-first
returns-clause-first c = first_found

pub returns-clause-second : goal.returns-clause-second
returns-clause-second c = second_found
