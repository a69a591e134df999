use Rattle.std.proofs.Common.{◌≡◌, ◌++◌, map, drop}
use Rattle.variables.proofs.first.truths.Given as goal

abbrev pub invariant-loop-record : goal.invariant-loop-record
invariant-loop-record l = l.truths ++ map (λ m. m.visible) (drop l.record-index l.records) ≡ map (λ m. m.visible) l.records
