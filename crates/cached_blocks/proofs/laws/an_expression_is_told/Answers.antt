use Rattle.cached_blocks.proofs.Told.{expression-told}
use Rattle.cached_blocks.proofs.laws.an_expression_is_told.Goals as goal

pub returns : goal.returns
returns c = expression-told
