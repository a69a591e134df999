use Rattle.std.proofs.Common.{arith}
use Rattle.link_graph.proofs.Steps.{has_ranks, is_listing}
use Rattle.link_graph.proofs.walk.walk_all.Goals as goal

pub invariant_of-result : goal.invariant_of-result
invariant_of-result c =
    let n = c.len-root-end.ensures.len in
    let end = c.loop-root-test.false in
    is_listing _ _ _ _ c.loop-root.invariant.walk (λ b h. c.loop-root.invariant.begun b (omega arith))

pub returns : goal.returns
returns c =
    let n = c.len-root-end.ensures.len in
    let end = c.loop-root-test.false in
    has_ranks _ _ _ _ c.loop-root.invariant.walk (λ b h. c.loop-root.invariant.begun b (omega arith))
