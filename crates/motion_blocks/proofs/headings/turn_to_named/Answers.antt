-- The place of the name, and then the turn to it.
use Rattle.std.proofs.Common.{ap}
use Rattle.machine_spec.specs.Outcome.{Goes}
use Rattle.motion_blocks.proofs.headings.turn_to_named.Goals as goal

pub returns-in-Ok-clause-ok : goal.returns-in-Ok-clause-ok
returns-in-Ok-clause-ok g c = rw c.in-Ok.ensures.ok (ap Goes (c.turn_to.ensures.row _))
