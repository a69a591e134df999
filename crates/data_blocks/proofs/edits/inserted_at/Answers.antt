use Rattle.data_blocks.proofs.Unchanged.{unchanged}
use Rattle.data_blocks.proofs.edits.inserted_at.Goals as goal

pub returns-in-All-clause-ok : goal.returns-in-All-clause-ok
returns-in-All-clause-ok c = rw c.in-All.is (unchanged c.args.list.of c.args.list.index c.args.variables.now)

pub returns-in-Invalid-clause-ok : goal.returns-in-Invalid-clause-ok
returns-in-Invalid-clause-ok c = rw c.in-Invalid.is (unchanged c.args.list.of c.args.list.index c.args.variables.now)
