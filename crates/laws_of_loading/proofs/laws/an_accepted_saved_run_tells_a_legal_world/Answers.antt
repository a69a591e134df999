use Rattle.laws_of_loading.proofs.Legal.{accepted_is_legal}
use Rattle.laws_of_loading.proofs.laws.an_accepted_saved_run_tells_a_legal_world.Goals as goal

pub returns : goal.returns
returns c = accepted_is_legal
