use Rattle.block_checks.proofs.Bridges.{are_ranks}
use Rattle.block_checks.proofs.Orders.{passes_cycles, first_cyclic}
use Rattle.block_checks.proofs.checked_scripts.link_target.Goals as goal

pub returns-in-Ranked-clause-kept : goal.returns-in-Ranked-clause-kept
returns-in-Ranked-clause-kept c = record {
  ranks = are_ranks c.args.table.now.blocks c.in-Ranked.ranks (rw (c.in-Ranked.is, c.in_ok-graph.ensures) at c.in_ok-ranking.ensures);
  checked = c.in_ok-checked-in-Ranked.ensures;
}

pub returns-in-Ranked-clause-passes : goal.returns-in-Ranked-clause-passes
returns-in-Ranked-clause-passes c = passes_cycles c.args.target c.args.table.now.blocks c.in-Ranked.ranks (rw (c.in-Ranked.is, c.in_ok-graph.ensures) at c.in_ok-ranking.ensures)

pub returns-clause-stop : goal.returns-clause-stop
returns-clause-stop c = first_cyclic c.args.target c.args.table.now.blocks c.in-Cyclic.block (rw (c.in-Cyclic.is, c.in_ok-graph.ensures) at c.in_ok-ranking.ensures)
