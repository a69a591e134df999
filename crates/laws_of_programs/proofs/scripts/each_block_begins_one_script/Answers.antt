use Rattle.laws_of_programs.proofs.ScriptsHeld.{blocks_tell}
use Rattle.laws_of_programs.proofs.scripts.each_block_begins_one_script.Goals as goal

pub returns : goal.returns
returns c = blocks_tell
