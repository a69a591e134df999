use Rattle.std.proofs.Common.{length, ◌-◌, ◌≡◌, ◌+◌, ◌≤◌, drop, option_map}
use Rattle.saved_spec.specs.Refusals.{first_difference}
use Rattle.run_save.proofs.spelling.difference.Given as goal

abbrev pub invariant-loop-at : goal.invariant-loop-at
invariant-loop-at l = record {
  left : l.at ≤ length l.left;
  right : l.at ≤ length l.right;
  same : first_difference l.left l.right ≡ option_map (λ n. l.at + n) (first_difference (drop l.at l.left) (drop l.at l.right));
}

abbrev pub decreases-loop-at : goal.decreases-loop-at
decreases-loop-at l = length l.left - l.at
