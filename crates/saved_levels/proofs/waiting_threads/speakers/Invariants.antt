use Rattle.std.proofs.Common.{◌≡◌, ℕ, ◌==◌, take}
use Rattle.std.specs.List.{list_any}
use Rattle.std.specs.Ordering.{nat_cmp}
use Rattle.std.specs.BTreeSet.{contains_by}
use Rattle.saved_levels.proofs.waiting_threads.speakers.Given as goal

-- those that were named so far
abbrev pub invariant-loop-timer : goal.invariant-loop-timer
invariant-loop-timer l = (n : ℕ) → contains_by (nat_cmp n) l.threads ≡ list_any (λ t. t.thread == n) (take l.timer-index l.timers)
