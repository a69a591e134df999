use Rattle.std.proofs.Common.{subst, arith}
use Rattle.scratch_number.specs.Number.{IsWithin}
use Rattle.scratch_values.proofs.Numbers.{IsWithin-number_of, length-text_of}
use Rattle.scratch_values.proofs.casts.number_text.Goals as goal

pub short_text-requires : goal.short_text-requires
short_text-requires c =
    let within : IsWithin c.args.number = subst IsWithin c.write_text.ensures.reads_back (IsWithin-number_of _) in
    rw (c.as_str.ensures, c.write_text.ensures.text) (omega (arith, length-text_of c.args.number within))
