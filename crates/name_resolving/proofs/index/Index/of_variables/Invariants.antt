use Rattle.std.proofs.Common.{map, take}
use Rattle.name_resolving.specs.Index.{IsIndex}
use Rattle.name_resolving.proofs.index.Index.of_variables.Given as goal

abbrev pub invariant-loop-i : goal.invariant-loop-i
invariant-loop-i l = IsIndex l.index (map (λ v. v.name) (take l.i l.variables))
