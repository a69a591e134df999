use Rattle.std.proofs.Common.{◌<◌, arith, rules, sym, length-append}
use Rattle.std.proofs.lemmas.Nat.{mod_below}
use Rattle.std.proofs.lemmas.List.{append-nil}
use Rattle.scratch_number.proofs.Texts.{fraction_digits-zero, fraction_digits-more, first_digit-small, pow_ten_pos, append-step, places-some}
use Rattle.scratch_number.proofs.number_text.+push_fraction.Goals as goal

pub returns-then-fraction-eq0 : goal.returns-then-fraction-eq0
returns-then-fraction-eq0 t c = rw (c.if-fraction-eq0.true, fraction_digits-zero c.args.places) (sym (append-nil _))

pub overflow_cast-fraction : goal.overflow_cast-fraction
overflow_cast-fraction t c =
    rw c.power_of_ten-unit.ensures.value (omega (arith, first_digit-small c.args.places c.args.fraction (places-some _ _ c.if-fraction-eq0.false c.requires.small) c.requires.small))

pub overflow_add-fraction : goal.overflow_add-fraction
overflow_add-fraction t c =
    rw c.power_of_ten-unit.ensures.value (omega (arith, first_digit-small c.args.places c.args.fraction (places-some _ _ c.if-fraction-eq0.false c.requires.small) c.requires.small))

pub push-requires-clause-ascii : goal.push-requires-clause-ascii
push-requires-clause-ascii t c =
    rw c.power_of_ten-unit.ensures.value (omega (arith, first_digit-small c.args.places c.args.fraction (places-some _ _ c.if-fraction-eq0.false c.requires.small) c.requires.small))

pub push_fraction-requires : goal.push_fraction-requires
push_fraction-requires t c = (
  let some : 0 < c.args.places = places-some _ _ c.if-fraction-eq0.false c.requires.small in search rules,
  (
    let some : 0 < c.args.places = places-some _ _ c.if-fraction-eq0.false c.requires.small in simp (c.push.ensures, length-append) (omega arith),
    (
      omega arith,
      rw c.power_of_ten-unit.ensures.value (mod_below _ _ (pow_ten_pos _)),
    ),
  ),
)

pub returns : goal.returns
returns t c =
    append-step _ _ _ _ _ _ c.push.ensures c.push_fraction.ensures
    (rw c.power_of_ten-unit.ensures.value (fraction_digits-more c.args.places c.args.fraction (omega arith) (places-some _ _ c.if-fraction-eq0.false c.requires.small)))
