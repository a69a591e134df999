use Rattle.std.proofs.Common.{arith}
use Rattle.std.proofs.lemmas.Nat.{mul-le}
use Rattle.scratch_number.proofs.Digits.{cut-step}
use Rattle.scratch_number.proofs.numerals.capped_value.Goals as goal

pub overflow_mul-value : goal.overflow_mul-value
overflow_mul-value c = omega (arith, mul-le c.loop-digit.value c.args.base 100000000000000000000 256 c.loop-digit.invariant.within (omega arith))

pub loop-digit-preserved : goal.loop-digit-preserved
loop-digit-preserved c = record {
  cut = cut-step c.args.base c.args.start c.args.digits.now c.loop-digit.digit-index _ _ _ c.requires.some c.loop-digit-test.true c.loop-digit.invariant.cut c.digit_value.ensures.value c.min-value.ensures;
  within = omega arith;
}
