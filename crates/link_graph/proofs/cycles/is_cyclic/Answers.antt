use Rattle.std.proofs.Common.{subst, get_or, ◌<◌, true, length, ◌∙◌, arith}
use Rattle.std.proofs.lemmas.Option.{get_or_from_slice_get}
use Rattle.std.specs.List.{Contains}
use Rattle.std.proofs.lemmas.List.Elements.{Contains-get_or}
use Rattle.link_graph.proofs.Chains.{chain_from, from_chain}
use Rattle.link_graph.proofs.Sets.{read}
use Rattle.link_graph.proofs.cycles.is_cyclic.Goals as goal

pub reach-requires : goal.reach-requires
reach-requires c = λ k d lt.
    let xs = c.links.result.now in
    c.links.ensures.graph.closed c.args.block _ (subst (λ ys. Contains ys (get_or xs k d)) c.links.ensures.links (Contains-get_or xs k d lt))

pub returns-clause-yes : goal.returns-clause-yes
returns-clause-yes c = λ t.
    let x = rw c.links.ensures.links at c.in_ok-seen.ensures in
    let lt : c.args.block < length c.in_ok-seen.seen.items = let e = x.each in let h = c.requires in omega arith in
    chain_from c.args.graph.now c.args.block (x.sound c.args.block (read c.in_ok-seen.seen.items c.args.block c.index.result.now true lt c.index.ensures t))

pub returns-clause-no : goal.returns-clause-no
returns-clause-no c = λ r.
    let x = rw c.links.ensures.links at c.in_ok-seen.ensures in
    c.index.ensures ∙ get_or_from_slice_get c.in_ok-seen.seen.items c.args.block true c.index.result.now (x.complete c.args.block (from_chain c.args.graph.now c.args.block r))
