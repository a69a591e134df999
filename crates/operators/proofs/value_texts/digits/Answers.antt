use Rattle.std.proofs.Common.{subst, arith}
use Rattle.scratch_number.specs.Number.{IsWithin}
use Rattle.scratch_values.proofs.Numbers.{IsWithin-number_of, length-text_of}
use Rattle.operators.proofs.value_texts.digits.Goals as goal

pub returns-clause-short : goal.returns-clause-short
returns-clause-short c =
    let within : IsWithin c.args.number = subst IsWithin c.write_text.ensures.reads_back (IsWithin-number_of _) in
    rw c.write_text.ensures.text (omega (arith, length-text_of c.args.number within))
