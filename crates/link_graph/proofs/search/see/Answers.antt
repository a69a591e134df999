use Rattle.link_graph.proofs.Sets.{read}
use Rattle.link_graph.proofs.Searches.{seen_before, seen_now}
use Rattle.link_graph.proofs.search.see.Goals as goal

pub returns-in_ok-push : goal.returns-in_ok-push
returns-in_ok-push c = rw c.in_ok-push.ensures.items (seen_now _ _ c.args.block (read _ _ c.index.result.now _ c.requires c.index.ensures c.if-not-index.true))

pub returns-else-not-index : goal.returns-else-not-index
returns-else-not-index c = seen_before _ _ c.args.block (read _ _ c.index.result.now _ c.requires c.index.ensures c.if-not-index.false)
