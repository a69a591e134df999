use Rattle.std.proofs.Common.{◌≡◌, ◌++◌, map, take, drop}
use Rattle.machine_spec.specs.Stopping.{cleared}
use Rattle.targets.proofs.changes.clear_all.Given as goal

abbrev pub invariant-loop-place : goal.invariant-loop-place
invariant-loop-place l = l.instances ≡ map cleared (take l.place l.initial.instances) ++ drop l.place l.initial.instances
