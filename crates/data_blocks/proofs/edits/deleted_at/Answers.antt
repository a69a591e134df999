use Rattle.data_blocks.proofs.Unchanged.{unchanged}
use Rattle.data_blocks.proofs.edits.deleted_at.Goals as goal

pub returns-in-Invalid-clause-new : goal.returns-in-Invalid-clause-new
returns-in-Invalid-clause-new c = rw c.in-Invalid.is (unchanged c.args.list.of c.args.list.index c.args.variables.now)
