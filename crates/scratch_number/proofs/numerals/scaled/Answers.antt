use Rattle.std.proofs.Common.{◌≤◌, ◌^◌, arith}
use Rattle.std.proofs.Math.Nat.{pow-le-pow_right}
use Rattle.std.proofs.lemmas.Nat.{mul-le}
use Rattle.scratch_number.proofs.Rounding.{number-scaled_far}
use Rattle.scratch_number.proofs.numerals.scaled.Goals as goal

pub overflow_mul-result : goal.overflow_mul-result
overflow_mul-result c =
    let power : 10 ^ c.args.zeros ≤ 10 ^ 18 = pow-le-pow_right {n = 10} (omega arith) c.if-zeros-le18.true in
    rw c.pow.ensures (omega (arith, mul-le c.args.value (10 ^ c.args.zeros) 100000000000000000000 1000000000000000000 c.requires power))

pub returns-else-value-eq0 : goal.returns-else-value-eq0
returns-else-value-eq0 c = number-scaled_far c.args.value c.args.zeros (omega arith) (omega arith)
