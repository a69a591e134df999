-- What stands over the block of a level stands over the level.
use Rattle.saved_levels.proofs.Standing.{over_level}
use Rattle.saved_levels.specs.Standing.{program_in, sheet_of}
use Rattle.saved_levels.proofs.floors.over.Goals as goal

pub returns : goal.returns
returns c =
    λ hat rest. over_level (sheet_of c.args.site.now) (program_in c.args.site.now) hat c.args.level.now rest c.in-Some.id c.block-block.result.now c.over_block.result c.in-Some.is c.block-block.ensures c.over_block.ensures
