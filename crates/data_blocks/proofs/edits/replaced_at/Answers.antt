use Rattle.data_blocks.proofs.Unchanged.{unchanged}
use Rattle.data_blocks.proofs.edits.replaced_at.Goals as goal

pub returns-in-All-clause-new : goal.returns-in-All-clause-new
returns-in-All-clause-new c = rw c.in-All.is (unchanged c.args.list.of c.args.list.index c.args.variables.now)

pub returns-in-Invalid-clause-new : goal.returns-in-Invalid-clause-new
returns-in-Invalid-clause-new c = rw c.in-Invalid.is (unchanged c.args.list.of c.args.list.index c.args.variables.now)
