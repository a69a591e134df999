use Rattle.std.proofs.Common.{◌≡◌, ◌≤◌, nat_le}
use Rattle.scratch_number.specs.Angles.{largest, sine_at}
use Rattle.scratch_number.proofs.angles.degrees_below.Given as goal

abbrev pub invariant-loop-i : goal.invariant-loop-i
invariant-loop-i l = record {
  largest_yet : l.k ≡ largest (λ d. nat_le (sine_at d) l.v) l.i;
  counted : l.k ≤ l.i;
  below : sine_at l.k ≤ l.v;
}
