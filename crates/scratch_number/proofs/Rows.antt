-- Worked rows of the definitions: what each says at numbers that are written out.
use Rattle.std.proofs.Common.{◌≡◌, refl}
use Rattle.std.specs.Prelude.{pos, negsuc, codes}
use Rattle.std.specs.Fmt.{digits}
use Rattle.scratch_number.specs.declared.number.Num.TheVariants.{Fixed, Inf, Nan}
use Rattle.scratch_number.specs.Arithmetic.{add, mul, div, modulo, round}
use Rattle.scratch_number.specs.Angles.{sin, tan, asin, sines, sine_at, sine_to_90, sine_to_180, sine_to_360, arcsine, degrees_below, largest}
use Rattle.scratch_number.specs.Text.{text_of, size_text, fraction_text, fraction_digits}
use Rattle.scratch_number.specs.Reading.{trimmed_number, base_of, base_of_letter, based_number, is_numeral, has_minus, without_sign, unsigned_number, decimal_number, digits_front, after_digits, digit_run, fraction_front, after_fraction, exponent_of}

-- 9·10^18 is the last number, the next is infinite
last_number : add (Fixed (pos 9000000000000000000)) (Fixed (negsuc 0)) ≡ Fixed (pos 8999999999999999999)
last_number = refl

past_limit : add (Fixed (pos 9000000000000000000)) (Fixed (pos 1)) ≡ Inf
past_limit = refl

-- 2 / 3 is 0.666667
two_thirds : div (Fixed (pos 2000000)) (Fixed (pos 3000000)) ≡ Fixed (pos 666667)
two_thirds = refl

-- 0.000001 · 0.5 is 0.000001, and with a minus −0.000001
half_up : mul (Fixed (pos 1)) (Fixed (pos 500000)) ≡ Fixed (pos 1)
half_up = refl

half_down : mul (Fixed (negsuc 0)) (Fixed (pos 500000)) ≡ Fixed (negsuc 0)
half_down = refl

-- −7 modulo 3 is 2, 7 modulo −3 is −2
modulo_up : modulo (Fixed (negsuc 6999999)) (Fixed (pos 3000000)) ≡ Fixed (pos 2000000)
modulo_up = refl

modulo_down : modulo (Fixed (pos 7000000)) (Fixed (negsuc 2999999)) ≡ Fixed (negsuc 1999999)
modulo_down = refl

-- −2.5 rounds to −2
rounded : round (Fixed (negsuc 2499999)) ≡ Fixed (negsuc 1999999)
rounded = refl

-- the sine of 30.5 degrees is 0.507519, the tangent of 90 is infinite
sine : sin (Fixed (pos 30500000)) ≡ Fixed (pos 507519)
unfolding sine_to_360 sine_to_180 sine_to_90 sine_at sines
sine = refl

tangent : tan (Fixed (pos 90000000)) ≡ Inf
unfolding sine_to_360 sine_to_180 sine_to_90 sine_at sines
tangent = refl

-- the arcsine of 0.5 is 30 degrees
arcsine_half : asin (Fixed (pos 500000)) ≡ Fixed (pos 30000000)
unfolding arcsine degrees_below largest sine_at sines
arcsine_half = refl

-- −1256.4963 is written so
written : text_of (Fixed (negsuc 1256496299)) ≡ codes "-1256.4963"
unfolding size_text fraction_text fraction_digits digits
written = refl

-- `5e-7` is 0.000001, `1.` is 1, `.` and `-0x10` are no numbers, `0X1f` is 31
small_number : trimmed_number (codes "5e-7") ≡ Fixed (pos 1)
unfolding trimmed_number base_of base_of_letter has_minus without_sign unsigned_number decimal_number digits_front after_digits digit_run fraction_front after_fraction exponent_of is_numeral
small_number = refl

pointed_number : trimmed_number (codes "1.") ≡ Fixed (pos 1000000)
unfolding trimmed_number base_of base_of_letter has_minus without_sign unsigned_number decimal_number digits_front after_digits digit_run fraction_front after_fraction exponent_of is_numeral
pointed_number = refl

point_alone : trimmed_number (codes ".") ≡ Nan
unfolding trimmed_number base_of base_of_letter has_minus without_sign unsigned_number decimal_number digits_front after_digits digit_run fraction_front after_fraction exponent_of is_numeral
point_alone = refl

based_minus : trimmed_number (codes "-0x10") ≡ Nan
unfolding trimmed_number base_of base_of_letter based_number has_minus without_sign unsigned_number decimal_number digits_front after_digits digit_run fraction_front after_fraction exponent_of is_numeral
based_minus = refl

based : trimmed_number (codes "0X1f") ≡ Fixed (pos 31000000)
unfolding trimmed_number base_of base_of_letter based_number is_numeral
based = refl
