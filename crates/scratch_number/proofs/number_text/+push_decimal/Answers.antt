use Rattle.std.proofs.Common.{arith, rules, length-append}
use Rattle.std.proofs.lemmas.Fmt.{decimal_nonempty}
use Rattle.scratch_number.proofs.Texts.{decimal-more, decimal-one, length-decimal-more}
use Rattle.scratch_number.proofs.number_text.+push_decimal.Goals as goal
use Rattle.scratch_number.proofs.number_text.+push_decimal.Goals.{then-n-ge10, else-n-ge10}

pub push_decimal-requires : goal.push_decimal-requires
push_decimal-requires t c = (search rules, omega (arith, length-decimal-more c.args.n (omega arith) (omega arith)))

pub push-requires-clause-room : goal.push-requires-clause-room
push-requires-clause-room t c = elim c.if-n-ge10.branch [
  | then-n-ge10 w ↦
      simp (w.out-is, w.push_decimal.ensures, length-append)
      (omega (arith, length-decimal-more c.args.n (omega arith) (omega arith)))
  | else-n-ge10 w ↦ simp w.out-is (omega (arith, decimal_nonempty c.args.n (omega arith)))
]

pub returns : goal.returns
returns t c = elim c.if-n-ge10.branch [
  | then-n-ge10 w ↦ decimal-more c.args.n _ _ _ (omega arith) (omega arith) (rw w.out-is w.push_decimal.ensures) c.push.ensures
  | else-n-ge10 w ↦ decimal-one c.args.n _ _ (omega arith) (rw w.out-is at c.push.ensures)
]
