use Rattle.std.proofs.Common.{◌≡◌, ◌&&◌, not, drop}
use Rattle.std.specs.List.{list_all}
use Rattle.std.specs.BTreeSet.{contains}
use Rattle.std.specs.Ordering.{nat_cmp}
use Rattle.saved_spec.specs.Rules.{differ}
use Rattle.saved_checks.proofs.distinct.numbers_differ.Given as goal

-- the numbers that are left are not among those before, and differ
abbrev pub invariant-loop-number : goal.invariant-loop-number
invariant-loop-number l =
    differ l.numbers ≡ (list_all (λ m. not (contains nat_cmp l.seen m)) (drop l.number-index l.numbers) && differ (drop l.number-index l.numbers))
