use Rattle.std.proofs.Common.{◌≡◌, ℕ, take, rules, ap, ◌∙◌}
use Rattle.scratch_number.specs.Reading.{digits_front}
use Rattle.scratch_number.proofs.Scanning.{digits_front-all, fraction_front-all, unsigned_number-some, unsigned_number-none}
use Rattle.scratch_number.proofs.numerals.unsigned_number.Goals as goal

pub decimal_number-requires-clause-digits : goal.decimal_number-requires-clause-digits
unfolding digits_front
decimal_number-requires-clause-digits c =
    let front : c.split_at.result.0.now ≡ digits_front c.args.text.now = c.split_at.ensures.front ∙ ap (λ (k : ℕ). take k c.args.text.now) c.digit_run.ensures.value in
    rw front (digits_front-all c.args.text.now)

pub decimal_number-requires-clause-fraction : goal.decimal_number-requires-clause-fraction
decimal_number-requires-clause-fraction c = rw c.split_fraction.ensures.digits (fraction_front-all _)

pub returns-in-Some : goal.returns-in-Some
returns-in-Some c =
    unsigned_number-some c.args.text.now c.split_at.result.0.now c.split_at.result.1.now c.split_fraction.result.0.now c.split_fraction.result.1.now c.digit_run.result c.in-Some.size c.in-Some.down c.exponent_of.result c.decimal_number.result (search rules) c.digit_run.ensures.value c.split_at.ensures.front c.split_at.ensures.back c.split_fraction.ensures.digits c.split_fraction.ensures.rest c.exponent_of.ensures c.in-Some.is c.decimal_number.ensures

pub returns-in-None : goal.returns-in-None
returns-in-None c =
    unsigned_number-none c.args.text.now c.split_at.result.1.now c.split_fraction.result.1.now c.digit_run.result c.exponent_of.result (search rules) c.digit_run.ensures.value c.split_at.ensures.back c.split_fraction.ensures.rest c.exponent_of.ensures c.in-None.is
