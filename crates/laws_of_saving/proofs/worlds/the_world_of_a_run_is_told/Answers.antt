use Rattle.laws_of_saving.proofs.ThreadsTold.{the_world_told}
use Rattle.laws_of_saving.proofs.worlds.the_world_of_a_run_is_told.Goals as goal

pub returns : goal.returns
returns c = the_world_told
