use Rattle.std.proofs.Common.{arith, true, false}
use Rattle.scratch_number.proofs.Decimals.{decimal_number-is, decimal_number-none}
use Rattle.scratch_number.proofs.numerals.decimal_number.Goals as goal

pub returns-then-digits-fraction-eq0 : goal.returns-then-digits-fraction-eq0
returns-then-digits-fraction-eq0 c = λ e cut. decimal_number-none c.args.digits.now c.args.fraction.now _ c.if-digits-fraction-eq0.true

pub returns-then-down : goal.returns-then-down
returns-then-down c = λ e cut.
    rw c.if-down.true (decimal_number-is c.args.digits.now c.args.fraction.now true c.args.size e c.shifted.result c.of_size.result c.requires.digits c.requires.fraction (omega arith) (omega arith) cut c.shifted.ensures c.of_size.ensures)

pub returns-else-down : goal.returns-else-down
returns-else-down c = λ e cut.
    rw c.if-down.false (decimal_number-is c.args.digits.now c.args.fraction.now false c.args.size e c.shifted-else-down.result c.of_size-else-down.result c.requires.digits c.requires.fraction (omega arith) (omega arith) cut c.shifted-else-down.ensures c.of_size-else-down.ensures)
