use Rattle.std.proofs.Common.{◌≡◌, ◌++◌, map, drop}
use Rattle.std.specs.List.{enumerate_from}
use Rattle.machine_spec.specs.First.{store}
use Rattle.variables.specs.First.{stores_of}
use Rattle.variables.proofs.first.stores.Given as goal

abbrev pub invariant-loop-place : goal.invariant-loop-place
invariant-loop-place l = l.stores.items ++ map (λ x. store x.0 x.1) (enumerate_from l.place (drop l.place l.targets)) ≡ stores_of l.targets
