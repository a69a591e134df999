use Rattle.std.proofs.Common.{get_or, arith}
use Rattle.std.proofs.lemmas.List.{take_more}
use Rattle.link_graph.proofs.Searches.{grown_more}
use Rattle.link_graph.proofs.search.see_all.Goals as goal

pub see-requires : goal.see-requires
see-requires c =
    let h = c.requires c.loop-block.block-index 0 c.loop-block-test.true in
    let e = c.loop-block.invariant.each in
    omega arith

pub loop-block-preserved : goal.loop-block-preserved
loop-block-preserved c =
    let i = c.loop-block.block-index in
    rw (take_more c.args.blocks.now i 0 c.loop-block-test.true) (grown_more _ (get_or c.args.blocks.now i 0) _ _ _ _ _ _ c.loop-block.invariant c.in_ok-see.ensures)
