use Rattle.std.proofs.Common.{◌≡◌, length, drop}
use Rattle.std.specs.Prelude.{nat_le}
use Rattle.std.specs.List.{sum_by}
use Rattle.machine_spec.specs.Outcome.{most_levels}
use Rattle.saved_checks.proofs.given_numbers.have_few_levels.Given as goal

-- the levels of the threads that are left are as many as may be left
abbrev pub invariant-loop-thread : goal.invariant-loop-thread
invariant-loop-thread l = nat_le (sum_by (λ x. length x.levels) l.threads) most_levels ≡ nat_le (sum_by (λ x. length x.levels) (drop l.thread-index l.threads)) l.left
