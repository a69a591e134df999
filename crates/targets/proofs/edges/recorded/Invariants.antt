use Rattle.std.proofs.Common.{◌≡◌, drop}
use Rattle.targets.specs.Edges.{edge_of}
use Rattle.targets.proofs.edges.recorded.Given as goal

abbrev pub invariant-loop-edge : goal.invariant-loop-edge
invariant-loop-edge l = edge_of l.hat (drop l.edge-index l.edges) ≡ edge_of l.hat l.edges
