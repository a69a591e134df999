use Rattle.std.proofs.Common.{◌++◌, ◌+◌, length, length-append, arith}
use Rattle.scratch_number.proofs.Decimals.{shifted-up, shifted-down}
use Rattle.scratch_number.proofs.Digits.{AllDigits-append}
use Rattle.scratch_number.proofs.numerals.shifted.Goals as goal

pub returns-then-lower-raise : goal.returns-then-lower-raise
returns-then-lower-raise c =
    shifted-up (c.args.digits.now ++ c.args.fraction.now) c.front_value.result c.scaled.result (length c.args.digits.now + length c.args.fraction.now) c.args.raise c.args.lower c.if-lower-raise.true (omega (arith, length-append c.args.digits.now c.args.fraction.now)) c.front_value.ensures.value c.scaled.ensures

pub returns : goal.returns
returns c =
    shifted-down (c.args.digits.now ++ c.args.fraction.now) c.front_value-2.result c.saturating_sub-kept.result c.args.raise c.args.lower (AllDigits-append 10 c.args.digits.now c.args.fraction.now c.requires.digits c.requires.fraction) c.if-lower-raise.false (omega (arith, length-append c.args.digits.now c.args.fraction.now, c.saturating_sub-kept.ensures)) c.front_value-2.ensures.value
