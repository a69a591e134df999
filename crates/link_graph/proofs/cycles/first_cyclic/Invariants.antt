use Rattle.std.proofs.Common.{ℕ, ◌<◌}
use Rattle.link_graph.specs.Links.{IsCyclic}
use Rattle.link_graph.proofs.cycles.first_cyclic.Given as goal

abbrev pub invariant-loop-block : goal.invariant-loop-block
invariant-loop-block l = (a : ℕ) → a < l.block → IsCyclic l.graph a → ⊥
