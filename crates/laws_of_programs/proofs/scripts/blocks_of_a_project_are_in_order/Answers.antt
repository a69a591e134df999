use Rattle.laws_of_programs.proofs.ScriptsHeld.{blocks_in_order}
use Rattle.laws_of_programs.proofs.scripts.blocks_of_a_project_are_in_order.Goals as goal

pub returns : goal.returns
returns c = blocks_in_order
