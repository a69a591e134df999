use Rattle.std.proofs.Common.{arith}
use Rattle.scratch_number.proofs.Digits.{cut-front}
use Rattle.scratch_number.proofs.numerals.front_value.Goals as goal

pub returns-clause-value : goal.returns-clause-value
returns-clause-value c =
    cut-front c.args.digits.now c.args.fraction.now c.args.count c.min-behind.result c.capped_value-2.result _ (omega arith) c.min-behind.ensures c.capped_value-2.ensures.value c.capped_value-3.ensures.value
