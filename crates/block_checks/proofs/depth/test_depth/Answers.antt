use Rattle.block_checks.proofs.Bridges.{input_ranks}
use Rattle.block_checks.proofs.Orders.{passes_depth, first_deep}
use Rattle.block_checks.proofs.depth.test_depth.Goals as goal

pub first_deep-requires-clause-ranks : goal.first_deep-requires-clause-ranks
first_deep-requires-clause-ranks c = rw (c.in_ok-graph.ensures, c.ranks.ensures) (input_ranks c.args.table.now.blocks c.args.links.now.ranks c.requires.ranks)

pub returns-in-Some-clause-stop : goal.returns-in-Some-clause-stop
returns-in-Some-clause-stop c = first_deep c.args.target c.args.table.now.blocks c.in-Some.block (rw (c.in-Some.is, c.in_ok-graph.ensures, c.deref.ensures.value, c.in_ok-counts.ensures, c.blocks-2.ensures.blocks) at c.in_ok-deep.ensures)

pub returns-clause-passes : goal.returns-clause-passes
returns-clause-passes c = passes_depth c.args.target c.args.table.now.blocks (rw (c.in-None.is, c.in_ok-graph.ensures, c.deref.ensures.value, c.in_ok-counts.ensures, c.blocks-2.ensures.blocks) at c.in_ok-deep.ensures)
