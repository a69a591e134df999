use Rattle.std.proofs.Common.{arith, sym}
use Rattle.std.proofs.lemmas.List.{append-nil}
use Rattle.scratch_number.proofs.Texts.{fraction_text-zero, fraction_text-more, append-step}
use Rattle.scratch_number.proofs.number_text.push_fraction_text.Goals as goal

pub returns-then-fraction-eq0 : goal.returns-then-fraction-eq0
returns-then-fraction-eq0 c = rw (c.if-fraction-eq0.true, fraction_text-zero) (sym (append-nil _))

pub returns : goal.returns
returns c = append-step _ _ _ _ _ _ c.push.ensures c.push_fraction.ensures (fraction_text-more c.args.fraction (omega arith))
