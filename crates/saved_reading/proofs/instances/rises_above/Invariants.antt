use Rattle.std.proofs.Common.{◌≡◌, map, drop}
use Rattle.saved_spec.specs.InstanceShapes as shape
use Rattle.saved_reading.proofs.instances.rises_above.Given as goal

-- the blocks that are left are judged by the last one so far
abbrev pub invariant-loop-edge : goal.invariant-loop-edge
invariant-loop-edge l = shape.rises_above l.last (map (λ e. e.0) (drop l.edge-index l.edges)) ≡ shape.rises_above l.above (map (λ e. e.0) l.edges)
