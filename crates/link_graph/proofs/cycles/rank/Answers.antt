use Rattle.link_graph.proofs.Chains.{chain_within}
use Rattle.link_graph.proofs.cycles.rank.Goals as goal

pub first_cyclic-requires-clause-within : goal.first_cyclic-requires-clause-within
first_cyclic-requires-clause-within c = chain_within c.args.graph.now (rw c.in-Cyclic.is at c.in_ok-walked.ensures)
