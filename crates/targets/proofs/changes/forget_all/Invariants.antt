use Rattle.std.proofs.Common.{◌≡◌, ◌++◌, map, take, drop}
use Rattle.machine_spec.specs.Line.{without_edges}
use Rattle.targets.proofs.changes.forget_all.Given as goal

abbrev pub invariant-loop-place : goal.invariant-loop-place
invariant-loop-place l = l.instances ≡ map without_edges (take l.place l.initial.instances) ++ drop l.place l.initial.instances
