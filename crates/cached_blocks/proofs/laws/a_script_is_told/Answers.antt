use Rattle.cached_blocks.proofs.Told.{script-told}
use Rattle.cached_blocks.proofs.laws.a_script_is_told.Goals as goal

pub returns : goal.returns
returns c = script-told
