use Rattle.std.proofs.Common.{◌≡◌, [], arith}
use Rattle.std.proofs.lemmas.List.{nil_from_length}
use Rattle.link_graph.proofs.Searches.{searched, search_ends, last_within, links_seen}
use Rattle.link_graph.proofs.search.reach.Goals as goal

pub follow-requires-clause-within : goal.follow-requires-clause-within
follow-requires-clause-within c = last_within _ _ _ _ c.in-Some.block (rw c.in-Some.ensures.items at c.loop-block.invariant)

pub follow-requires-clause-each : goal.follow-requires-clause-each
follow-requires-clause-each c = links_seen _ _ _ _ c.in-Some.block c.loop-block.invariant

pub loop-block-preserved : goal.loop-block-preserved
loop-block-preserved c = searched _ _ _ _ c.in-Some.block _ _ (rw c.in-Some.ensures.items at c.loop-block.invariant) c.in_ok-follow.ensures

pub returns : goal.returns
returns c =
    let none = c.in_default.ensures.cases in
    let len = c.loop-block.search.waiting.ok.0 in
    let e : c.loop-block.search.waiting.items ≡ [] = nil_from_length c.loop-block.search.waiting.items (omega (arith, none.0, len)) in
    search_ends _ _ _ (rw e at c.loop-block.invariant)
