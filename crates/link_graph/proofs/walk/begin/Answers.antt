use Rattle.link_graph.proofs.Steps.{begins}
use Rattle.link_graph.proofs.walk.begin.Goals as goal

pub returns : goal.returns
returns c =
    let m = c.in_ok-marks.ensures.items_if_clones_equal (λ y h. h) in
    let r = c.in_ok-ranks.ensures.items_if_clones_equal (λ y h. h) in
    let o = c.new.ensures.items in
    (rw (m, r, o) (begins c.args.graph.now c.len-blocks.result c.len-blocks.ensures.graph c.len-blocks.ensures.len), c.new-2.ensures)
