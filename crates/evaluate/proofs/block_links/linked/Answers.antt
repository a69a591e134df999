use Rattle.project_check.specs.Loaded.{ranks_at}
use Rattle.project_check.proofs.Linked.{closed_at, ranked_at}
use Rattle.evaluate.specs.Seen.{sheet_of}
use Rattle.evaluate.proofs.InOrder.{ordered}
use Rattle.evaluate.proofs.Plugged.{plugged-all}
use Rattle.evaluate.proofs.block_links.linked.Goals as goal

pub returns-clause-plugged : goal.returns-clause-plugged
returns-clause-plugged c =
    let v = c.args.view.now in
    plugged-all v c.args.id c.cached.result.now.inputs
    (c.links_fall.ensures (sheet_of v) (ranks_at v.target v.project.now) c.args.id c.cached.result.now (ranked_at v.project.now v.target) (closed_at v.project.now v.target) c.cached.ensures).inputs

pub returns-clause-order : goal.returns-clause-order
returns-clause-order c = ordered (sheet_of c.args.view.now) c.args.id c.cached.result.now c.cached.ensures
