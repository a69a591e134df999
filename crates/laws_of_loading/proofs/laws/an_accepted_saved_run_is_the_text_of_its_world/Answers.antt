use Rattle.laws_of_loading.proofs.Written.{accepted_is_written}
use Rattle.laws_of_loading.proofs.laws.an_accepted_saved_run_is_the_text_of_its_world.Goals as goal

pub returns : goal.returns
returns c = accepted_is_written
