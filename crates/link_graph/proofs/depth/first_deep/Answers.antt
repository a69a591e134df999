use Rattle.std.proofs.Common.{◌≡◌, ◌<◌, ◌≤◌, length, ◌∙◌, arith, below_more}
use Rattle.std.specs.Prelude.{slice_index}
use Rattle.std.proofs.lemmas.List.{get_or_default}
use Rattle.link_graph.proofs.Depths.{shallow}
use Rattle.link_graph.proofs.depth.first_deep.Goals as goal

pub loop-block-preserved : goal.loop-block-preserved
loop-block-preserved c =
    let i = c.loop-block.block in
    let h : i < length c.args.graph.now = let n = c.len-block-end.ensures.len in let t = c.loop-block-test.true in omega arith in
    let each = c.in_ok-depths.ensures.each in
    let e : c.index.result.now ≡ slice_index c.in_ok-depths.depths.items i = c.index.ensures ∙ get_or_default c.in_ok-depths.depths.items i c.index.result.now 0 (omega arith) in
    let t = c.if-index-limit.false in
    let low : slice_index c.in_ok-depths.depths.items i ≤ c.args.limit = omega arith in
    below_more _ _ c.loop-block.invariant (shallow _ _ _ _ _ _ (c.in_ok-depths.ensures.depths i h) low)

pub returns : goal.returns
returns c = λ b h. c.loop-block.invariant b (let n = c.len-block-end.ensures.len in let t = c.loop-block-test.false in omega arith)
