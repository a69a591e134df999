use Rattle.std.proofs.Common.{arith, nat_le, sym, ap, ◌≡◌, ◌∙◌}
use Rattle.std.proofs.lemmas.Bool.Decides.{nat_tests}
use Rattle.scratch_number.specs.Angles.{largest, sine_at, degrees_below}
use Rattle.scratch_number.proofs.Roots.{largest-more, largest-zero}
use Rattle.scratch_number.proofs.Sines.{sine_at-zero}
use Rattle.scratch_number.proofs.angles.degrees_below.Goals as goal
use Rattle.scratch_number.proofs.angles.degrees_below.Goals.{then-sine_at-v, else-sine_at-v}

pub loop-i-init : goal.loop-i-init
loop-i-init c = record {
  largest_yet = sym (largest-zero _);
  counted = omega arith;
  below = omega (arith, sine_at-zero);
}

pub loop-i-preserved : goal.loop-i-preserved
loop-i-preserved c = record {
  largest_yet =
      rw (largest-more (λ d. nat_le (sine_at d) c.args.v) c.loop-i.i)
      (elim c.if-sine_at-v.branch [ then-sine_at-v w ↦ grind (arith, nat_tests) | else-sine_at-v w ↦ grind (arith, nat_tests) ]);
  counted = elim c.if-sine_at-v.branch [ then-sine_at-v w ↦ omega arith | else-sine_at-v w ↦ omega arith ];
  below = elim c.if-sine_at-v.branch [ then-sine_at-v w ↦ grind arith | else-sine_at-v w ↦ grind arith ];
}

pub returns-clause-value : goal.returns-clause-value
unfolding degrees_below
returns-clause-value c =
    let whole : c.loop-i.i ≡ 89 = omega arith in
    c.loop-i.invariant.largest_yet ∙ ap (largest (λ d. nat_le (sine_at d) c.args.v)) whole
