use Rattle.project_check.specs.Loaded.{ranks_at}
use Rattle.project_check.proofs.Linked.{closed_at, ranked_at}
use Rattle.thread_moves.proofs.links.linked.Goals as goal

pub returns-clause-ranked : goal.returns-clause-ranked
returns-clause-ranked c = record {
  ranks = ranks_at c.args.target c.args.project.now;
  falls = ranked_at c.args.project.now c.args.target;
  closed = closed_at c.args.project.now c.args.target;
}
