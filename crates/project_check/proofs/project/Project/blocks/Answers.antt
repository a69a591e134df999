use Rattle.std.proofs.Common.{◌≡◌, sym, subst}
use Rattle.std.specs.List.{slice_index_or}
use Rattle.project_spec.specs.Linked.{IsClosed}
use Rattle.project_check.proofs.Resolved.{blocks_here}
use Rattle.project_check.proofs.project.Project.blocks.Goals as goal

pub returns-clause-closed : goal.returns-clause-closed
returns-clause-closed c =
    let here : c.index-table.result.now ≡ slice_index_or c.args.self.now.tables.items c.args.target c.index-table.result.now =
    subst (λ t. c.index-table.result.now ≡ slice_index_or c.args.self.now.tables.items t c.index-table.result.now) c.target.view_is c.index-table.ensures in
    subst IsClosed (sym (blocks_here c.args.self.now.tables.items c.args.target c.index-table.result.now c.requires here)) c.blocks-closed.ensures.closed
