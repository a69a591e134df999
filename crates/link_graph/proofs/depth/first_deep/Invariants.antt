use Rattle.std.proofs.Common.{ℕ, ◌<◌}
use Rattle.link_graph.specs.Depth.{IsDeep}
use Rattle.link_graph.proofs.depth.first_deep.Given as goal

abbrev pub invariant-loop-block : goal.invariant-loop-block
invariant-loop-block l = (a : ℕ) → a < l.block → IsDeep l.graph l.counts l.limit a → ⊥
