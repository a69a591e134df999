use Rattle.std.proofs.Common.{◌≡◌, ◌++◌, map, drop}
use Rattle.variables.proofs.first.items.Given as goal

abbrev pub invariant-loop-record : goal.invariant-loop-record
invariant-loop-record l = l.items ++ map (λ l. l.items) (drop l.record-index l.records) ≡ map (λ l. l.items) l.records
