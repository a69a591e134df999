-- The top level that was made stands where the rules have it.
use Rattle.std.proofs.Common.{Some, sym, ap}
use Rattle.saved_parts.specs.Telling.{kept_of}
use Rattle.saved_levels.proofs.Stacked.{topped}
use Rattle.saved_levels.proofs.stacks.topped.Goals as goal

pub returns-in_ok-level-in-Some : goal.returns-in_ok-level-in-Some
returns-in_ok-level-in-Some c =
    topped c.args.site.now c.args.floor.now c.args.clock c.args.wanted (kept_of c.args.kept) (Some c.in-Some.id) (Some c.in_ok-level-in-Some.level) c.in-Some.ensures (ap Some (sym c.in_ok-level-in-Some.ensures))
