-- The level that was made stands where the rules have it.
use Rattle.std.proofs.Common.{Some, sym, ap}
use Rattle.saved_parts.specs.Telling.{kept_of}
use Rattle.saved_levels.proofs.Stacked.{stacked}
use Rattle.saved_levels.proofs.stacks.stacked.Goals as goal

pub returns-in_ok-level-in-Some-block_under : goal.returns-in_ok-level-in-Some-block_under
returns-in_ok-level-in-Some-block_under c =
    stacked c.args.site.now c.args.floor.now c.in-Some.wanted c.args.told.block (kept_of c.args.told.kept) (Some c.in-Some-block_under.id) (Some c.in_ok-level-in-Some-block_under.level) c.in-Some.is c.in-Some-block_under.ensures
    (ap Some (sym c.in_ok-level-in-Some-block_under.ensures))
