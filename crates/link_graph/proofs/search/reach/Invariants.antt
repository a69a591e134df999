use Rattle.link_graph.specs.Search.{IsSearch, work}
use Rattle.link_graph.proofs.search.reach.Given as goal

abbrev pub invariant-loop-block : goal.invariant-loop-block
invariant-loop-block l = IsSearch l.graph l.starts l.search.seen.items l.search.waiting.items

abbrev pub decreases-loop-block : goal.decreases-loop-block
decreases-loop-block l = work l.search.seen.items l.search.waiting.items
