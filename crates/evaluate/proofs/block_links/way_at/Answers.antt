use Rattle.std.proofs.Common.{ap}
use Rattle.machine_spec.specs.Evaluate.{value}
use Rattle.project_check.specs.Loaded.{ranks_at}
use Rattle.project_check.proofs.Linked.{ranked_at}
use Rattle.evaluate.specs.Seen.{seen, sheet_of}
use Rattle.evaluate.proofs.InOrder.{way-plugged}
use Rattle.evaluate.proofs.Short.{means}
use Rattle.evaluate.proofs.block_links.way_at.Goals as goal

pub returns-clause-means : goal.returns-clause-means
returns-clause-means c =
    let v = c.args.view.now in
    let block = c.linked-block.result.now in
    let told = c.an_expression_is_told.ensures (sheet_of v) (ranks_at v.target v.project.now) c.args.id block (ranked_at v.project.now v.target) c.requires.is c.linked-block.ensures.block in
    means v c.args.id block (λ w. ap (λ e. value (seen v) e w) told) c.way_of.result c.way_of.ensures

pub returns-clause-plugged : goal.returns-clause-plugged
returns-clause-plugged c =
    way-plugged c.args.view.now c.args.id c.linked-block.result.now c.linked-block.ensures.plugged c.way_of.result c.way_of.ensures
