use Rattle.cached_blocks.proofs.Told.{links-fall}
use Rattle.cached_blocks.proofs.laws.links_fall.Goals as goal

pub returns : goal.returns
returns c = links-fall
