use Rattle.std.proofs.Common.{rules}
use Rattle.saved_reading.proofs.Items.{list_of-items_view}
use Rattle.saved_reading.proofs.parts.items.Goals as goal

pub returns-in-Some : goal.returns-in-Some
returns-in-Some c = let e = list_of-items_view c.in-Some.items.now.items in grind rules
