use Rattle.std.proofs.Common.{◌<◌, length, get_or, arith}
use Rattle.link_graph.proofs.Steps.{advanced, closes, link_read}
use Rattle.link_graph.proofs.Sets.{read, contains_at}
use Rattle.link_graph.proofs.walk.go_on.Goals as goal

pub index-requires : goal.index-requires
index-requires c =
    let x = c.requires.walk in
    let l = link_read c.args.graph.now c.links-links.result.now c.args.top.block c.args.top.place c.links-links.ensures.links c.if-top-links.true in
    let h = x.graph.closed _ _ (contains_at _ _ _ l) in
    let m = x.marked in
    let o = c.args.walk.now.marks.ok.0 in
    omega arith

pub enter-requires-clause-link : goal.enter-requires-clause-link
enter-requires-clause-link c = link_read c.args.graph.now c.links-links.result.now c.args.top.block c.args.top.place c.links-links.ensures.links c.if-top-links.true

pub enter-requires-clause-fresh : goal.enter-requires-clause-fresh
enter-requires-clause-fresh c =
    let x = c.requires.walk in
    let l = link_read c.args.graph.now c.links-links.result.now c.args.top.block c.args.top.place c.links-links.ensures.links c.if-top-links.true in
    let h = x.graph.closed _ _ (contains_at _ _ _ l) in
    let m = x.marked in
    let lt : get_or c.links-links.result.now c.args.top.place 0 < length c.args.walk.now.marks.items = omega arith in
    read _ _ c.index.result.now _ lt c.index.ensures c.in-New.is

pub returns-in-Open-clause-walk : goal.returns-in-Open-clause-walk
returns-in-Open-clause-walk c =
    let x = c.requires.walk in
    let l = link_read c.args.graph.now c.links-links.result.now c.args.top.block c.args.top.place c.links-links.ensures.links c.if-top-links.true in
    let h = x.graph.closed _ _ (contains_at _ _ _ l) in
    let m = x.marked in
    let lt : get_or c.links-links.result.now c.args.top.place 0 < length c.args.walk.now.marks.items = omega arith in
    closes _ _ _ _ c.args.top c.args.walk.now.under _ x l (read _ _ c.index.result.now _ lt c.index.ensures c.in-Open.is)

pub returns-in-Done-clause-walk : goal.returns-in-Done-clause-walk
returns-in-Done-clause-walk c =
    let x = c.requires.walk in
    let l = link_read c.args.graph.now c.links-links.result.now c.args.top.block c.args.top.place c.links-links.ensures.links c.if-top-links.true in
    let h = x.graph.closed _ _ (contains_at _ _ _ l) in
    let m = x.marked in
    let lt : get_or c.links-links.result.now c.args.top.place 0 < length c.args.walk.now.marks.items = omega arith in
    advanced _ _ _ _ c.args.top c.args.walk.now.under _ x l (read _ _ c.index.result.now _ lt c.index.ensures c.in-Done.is)
