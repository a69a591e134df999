use Rattle.std.proofs.Common.{take}
use Rattle.link_graph.specs.Search.{IsGrown}
use Rattle.link_graph.proofs.search.see_all.Given as goal

abbrev pub invariant-loop-block : goal.invariant-loop-block
invariant-loop-block l = IsGrown (take l.block-index l.blocks) l.fn.search.seen.items l.fn.search.waiting.items l.search.seen.items l.search.waiting.items
