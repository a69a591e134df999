-- A place among the costumes is not wrapped.
use Rattle.looks_blocks.proofs.Wrapping.{place_stays}
use Rattle.looks_blocks.proofs.costume_choice.at_place.Goals as goal

pub returns : goal.returns
returns c = rw c.index.ensures (place_stays c.args.place c.args.costumes c.requires c.ranges.costumes.fits)
