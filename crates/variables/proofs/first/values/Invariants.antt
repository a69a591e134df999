use Rattle.std.proofs.Common.{◌≡◌, ◌++◌, map, drop}
use Rattle.variables.proofs.first.values.Given as goal

abbrev pub invariant-loop-record : goal.invariant-loop-record
invariant-loop-record l = l.values ++ map (λ v. v.value) (drop l.record-index l.records) ≡ map (λ v. v.value) l.records
