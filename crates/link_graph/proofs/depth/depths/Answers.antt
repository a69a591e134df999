use Rattle.std.proofs.Common.{◌≡◌, ◌+◌, Some, subst, length, length-set, get_or, ap, ◌∙◌, arith}
use Rattle.std.specs.Prelude.{slice_get}
use Rattle.std.proofs.lemmas.Option.{slice_get_within, slice_get-get_or}
use Rattle.link_graph.proofs.Depths.{depth_small, depths_more}
use Rattle.link_graph.proofs.Sets.{contains_at}
use Rattle.link_graph.proofs.depth.depths.Goals as goal

pub own_depth-requires : goal.own_depth-requires
own_depth-requires c =
    let there = slice_get-get_or c.order-block-items.result.now c.loop-block.block-index 0 c.loop-block-test.true in
    let p = (c.order-block-items.ensures.placed _ _ there).0 in
    let e = c.requires.counts in
    let r = c.requires.ranks.each in
    omega arith

pub links-requires : goal.links-requires
links-requires c =
    let there = slice_get-get_or c.order-block-items.result.now c.loop-block.block-index 0 c.loop-block-test.true in
    let p = (c.order-block-items.ensures.placed _ _ there).0 in
    let r = c.requires.ranks.each in
    omega arith

pub deepest-requires : goal.deepest-requires
deepest-requires c = λ k d l.
    let h = c.links.ensures.graph.closed _ d (contains_at _ k d (subst (λ xs. slice_get xs k ≡ Some d) c.links.ensures.links l)) in
    let e = c.loop-block.invariant.each in
    let v = ap length c.deref.ensures.value in
    omega arith

pub overflow_add-depth : goal.overflow_add-depth
overflow_add-depth c =
    let i = c.loop-block.block-index in
    let b = get_or c.order-block-items.result.now i 0 in
    let there = slice_get-get_or c.order-block-items.result.now i 0 c.loop-block-test.true in
    let most = rw (c.links.ensures.links, c.deref.ensures.value) at c.deepest.ensures.most in
    let one = rw (c.links.ensures.links, c.deref.ensures.value) at c.deepest.ensures.one in
    let x = depth_small c.args.graph.now c.args.counts.now c.args.ranks.now _ c.links.ensures.graph.closed c.requires.ranks c.order-block-items.ensures c.loop-block.depths.items c.loop-block.invariant.each i b c.own_depth.result c.deepest.result there c.own_depth.ensures.is most one c.own_depth.ensures.small c.loop-block.invariant.below in
    let p = (c.order-block-items.ensures.placed _ _ there).0 in
    let e = c.requires.ranks.each in
    let q = c.requires.ranks.bounded b (omega arith) in
    let s = c.links.ensures.graph.small in
    omega arith

pub index_mut-requires : goal.index_mut-requires
index_mut-requires c =
    let there = slice_get-get_or c.order-block-items.result.now c.loop-block.block-index 0 c.loop-block-test.true in
    let p = (c.order-block-items.ensures.placed _ _ there).0 in
    let r = c.requires.ranks.each in
    let e = c.loop-block.invariant.each in
    let o = c.loop-block.depths.ok.0 in
    omega arith

pub loop-block-preserved : goal.loop-block-preserved
loop-block-preserved c =
    let i = c.loop-block.block-index in
    let b = get_or c.order-block-items.result.now i 0 in
    let there = slice_get-get_or c.order-block-items.result.now i 0 c.loop-block-test.true in
    let most = rw (c.links.ensures.links, c.deref.ensures.value) at c.deepest.ensures.most in
    let one = rw (c.links.ensures.links, c.deref.ensures.value) at c.deepest.ensures.one in
    record {
      each = length-set c.loop-block.depths.items b (c.own_depth.result + c.deepest.result) ∙ c.loop-block.invariant.each;
      below = depths_more c.args.graph.now c.args.counts.now c.args.ranks.now _ c.links.ensures.graph.closed c.requires.ranks c.order-block-items.ensures c.loop-block.depths.items c.loop-block.invariant.each i b c.own_depth.result c.deepest.result there c.own_depth.ensures.is most one c.own_depth.ensures.small c.loop-block.invariant.below;
    }

pub returns-clause-depths : goal.returns-clause-depths
returns-clause-depths c = λ b h.
    let r = c.requires.ranks.each in
    let p = slice_get_within c.order-block-items.result.now _ b (c.order-block-items.ensures.places b (omega arith)) in
    let end = c.loop-block-test.false in
    c.loop-block.invariant.below b h (omega arith)
