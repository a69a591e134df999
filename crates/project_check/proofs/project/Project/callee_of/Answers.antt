-- The blocks and the heads are those of the target.
use Rattle.project_check.proofs.Defining.{found_in}
use Rattle.project_check.proofs.project.Project.callee_of.Goals as goal

pub returns : goal.returns
returns c =
    found_in c.args.self.now c.args.target c.args.code.now c.requires c.target.inside.0 c.index.result.now c.index-2.result.now c.blocks-blocks.result.now c.as_slice.result.now _
    c.target.view_is c.index.ensures c.index-2.ensures c.blocks-blocks.ensures.blocks c.as_slice.ensures c.called.ensures
