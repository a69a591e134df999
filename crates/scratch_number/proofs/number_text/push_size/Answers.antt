use Rattle.std.proofs.Common.{◌/◌, ◌∙◌, arith, length-append}
use Rattle.std.specs.Fmt.{decimal}
use Rattle.std.proofs.lemmas.Fmt.{length-decimal-le}
use Rattle.std.proofs.lemmas.List.{append_assoc}
use Rattle.scratch_number.specs.Text.{size_text}
use Rattle.scratch_number.proofs.number_text.push_size.Goals as goal

pub push_decimal-requires : goal.push_decimal-requires
push_decimal-requires c = omega (arith, length-decimal-le 13 (c.args.size / 1000000) (omega arith) (omega arith) (omega arith))

pub push_fraction_text-requires-clause-room : goal.push_fraction_text-requires-clause-room
push_fraction_text-requires-clause-room c =
    rw c.push_decimal.ensures (omega (arith, length-append c.args.out.now (decimal (c.args.size / 1000000)), length-decimal-le 13 (c.args.size / 1000000) (omega arith) (omega arith) (omega arith)))

pub returns : goal.returns
unfolding size_text
returns c = c.push_fraction_text.ensures ∙ rw c.push_decimal.ensures (append_assoc c.args.out.now (decimal (c.args.size / 1000000)) _)
