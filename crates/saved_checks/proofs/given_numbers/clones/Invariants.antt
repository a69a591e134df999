use Rattle.std.proofs.Common.{◌≡◌, ◌≤◌, ◌==◌, not, length, take}
use Rattle.std.specs.Prelude.{filter}
use Rattle.saved_checks.proofs.given_numbers.clones.Given as goal

-- the clones so far
abbrev pub invariant-loop-instance : goal.invariant-loop-instance
invariant-loop-instance l = (l.clones ≡ length (filter (λ i. not (i.number == i.of)) (take l.instance-index l.instances))) × (l.clones ≤ l.instance-index)
