-- What arithmetic and texts give is within the limit.
use Rattle.std.proofs.Common.{◌≡◌, ℕ, zero, suc, ◌+◌, ◌*◌, ◌<◌, ◌≤◌, Bool, true, false, List, [], ◌∷◌, Option, Some, None, refl, arith}
use Rattle.std.specs.Prelude.{ℤ, pos, negsuc, neg_ℤ, ◌+ℤ◌, ◌*ℤ◌, unsigned_abs, nat_le, nat_lt, if◌then◌else◌, drop, length, ◌++◌, bytes_eq, codes}
use Rattle.std.specs.Str.{trim}
use Rattle.std.specs.Str.Parse.{digits_value}
use Rattle.std.proofs.lemmas.Int.{ints}
use Rattle.std.proofs.lemmas.Bool.{leb-true}
use Rattle.std.specs.Int.{int_rem_euclid}
use Rattle.std.proofs.lemmas.Nat.{mod_below}
use Rattle.scratch_number.specs.declared.number.Num.{Num}
use Rattle.scratch_number.specs.declared.number.Num.TheVariants.{Fixed, Inf, NegInf, Nan}
use Rattle.scratch_number.specs.Number.{number, near, floor_quotient, infinity_by, negated, IsWithin, limit}
use Rattle.scratch_number.specs.Arithmetic.{add, sub, mul, ratio, div, infinity_over, remainder, finite_modulo, modulo, floor, ceiling, round, abs, million}
use Rattle.scratch_number.specs.Angles.{sine_to_360, turn, sqrt, sin, cos, tan, asin, acos, atan, atan_to_45, arcsine, direction_of, degrees, root_of}
use Rattle.scratch_number.specs.Grammar.{decimal_size, with_sign}
use Rattle.scratch_number.specs.Reading.{number_of, trimmed_number, base_of, based_number, unsigned_number, decimal_number, is_numeral, digits_front, fraction_front, after_digits, after_fraction, exponent_of, has_minus, without_sign}
use Rattle.scratch_number.proofs.Remainders.{remainder_down}
use Rattle.scratch_values.specs.declared.value.Value.{Value}
use Rattle.scratch_values.specs.declared.value.Value.TheVariants.{Number, Truth, Text}
use Rattle.scratch_values.specs.Casts as casts
use Rattle.laws_of_turns.specs.Within.{IsValueWithin}

pub if_within : (b : Bool) (n m : Num) → IsWithin n → IsWithin m → IsWithin (if b then n else m)
if_within true n m h g = h
if_within false n m h g = g

up_within : (b : Bool) (n : ℕ) → nat_le n limit ≡ b → IsWithin (if b then Fixed (pos n) else Inf)
up_within true n e = leb-true n limit e
up_within false n e = tt

down_within : (b : Bool) (n : ℕ) → nat_le (suc n) limit ≡ b → IsWithin (if b then Fixed (negsuc n) else NegInf)
down_within true n e = leb-true (suc n) limit e
down_within false n e = tt

-- past the limit a number is infinite
pub number_within : (z : ℤ) → IsWithin (number z)
number_within (pos n) = up_within (nat_le n limit) n refl
number_within (negsuc n) = down_within (nat_le (suc n) limit) n refl

pub negated_within : (a : Num) → IsWithin a → IsWithin (negated a)
negated_within (Fixed z) h = omega (arith, ints, h)
negated_within Inf h = tt
negated_within NegInf h = tt
negated_within Nan h = tt

infinity_within : (z : ℤ) → IsWithin (infinity_by z)
infinity_within (pos zero) = tt
infinity_within (pos (suc n)) = tt
infinity_within (negsuc n) = tt

pub add_within : (a b : Num) → IsWithin (add a b)
add_within (Fixed a) (Fixed b) = number_within (a +ℤ b)
add_within (Fixed a) Inf = tt
add_within (Fixed a) NegInf = tt
add_within (Fixed a) Nan = tt
add_within Inf (Fixed b) = tt
add_within Inf Inf = tt
add_within Inf NegInf = tt
add_within Inf Nan = tt
add_within NegInf (Fixed b) = tt
add_within NegInf Inf = tt
add_within NegInf NegInf = tt
add_within NegInf Nan = tt
add_within Nan b = tt

pub sub_within : (a b : Num) → IsWithin (sub a b)
sub_within a b = add_within a (negated b)

pub mul_within : (a b : Num) → IsWithin (mul a b)
mul_within (Fixed a) (Fixed b) = number_within (near (a *ℤ b) million)
mul_within (Fixed a) Inf = infinity_within a
mul_within (Fixed a) NegInf = infinity_within (neg_ℤ a)
mul_within (Fixed a) Nan = tt
mul_within Inf (Fixed b) = infinity_within b
mul_within Inf Inf = tt
mul_within Inf NegInf = tt
mul_within Inf Nan = tt
mul_within NegInf (Fixed b) = infinity_within (neg_ℤ b)
mul_within NegInf Inf = tt
mul_within NegInf NegInf = tt
mul_within NegInf Nan = tt
mul_within Nan b = tt

ratio_within : (a b : ℤ) → IsWithin (ratio a b)
ratio_within a (pos zero) = infinity_within a
ratio_within a (pos (suc b)) = number_within (near (a *ℤ million) (pos (suc b)))
ratio_within a (negsuc b) = number_within (near (a *ℤ million) (negsuc b))

over_within : (a : Num) (b : ℤ) → IsWithin a → IsWithin (infinity_over a b)
over_within a (pos b) h = h
over_within a (negsuc b) h = negated_within a h

pub div_within : (a b : Num) → IsWithin (div a b)
div_within (Fixed a) (Fixed b) = ratio_within a b
div_within (Fixed a) Inf = omega (arith, ints)
div_within (Fixed a) NegInf = omega (arith, ints)
div_within (Fixed a) Nan = tt
div_within Inf (Fixed b) = over_within Inf b tt
div_within Inf Inf = tt
div_within Inf NegInf = tt
div_within Inf Nan = tt
div_within NegInf (Fixed b) = over_within NegInf b tt
div_within NegInf Inf = tt
div_within NegInf NegInf = tt
div_within NegInf Nan = tt
div_within Nan b = tt

-- what is left after whole multiples is less than the divisor
remainder_up_within : (a : ℤ) (b : ℕ) → suc b ≤ limit → unsigned_abs (remainder a (pos (suc b))) ≤ limit
remainder_up_within (pos a) b h = omega (arith, ints, h, mod_below a (suc b) (omega arith))
remainder_up_within (negsuc a) b h = omega (arith, ints, h, mod_below a (suc b) (omega arith))

left_size : (a : ℤ) (d : ℕ) → 0 < d → unsigned_abs (int_rem_euclid a (pos d)) < d
left_size (pos a) d h = mod_below a d h
left_size (negsuc a) d h = omega arith

remainder_down_within : (a : ℤ) (b : ℕ) → suc b ≤ limit → unsigned_abs (remainder a (negsuc b)) ≤ limit
remainder_down_within a b h = rw (remainder_down a b) (omega (arith, ints, left_size (neg_ℤ a) (suc b) (omega arith), h))

finite_within : (a b : ℤ) → unsigned_abs b ≤ limit → IsWithin (finite_modulo a b)
finite_within a (pos zero) h = tt
finite_within a (pos (suc b)) h = remainder_up_within a b h
finite_within a (negsuc b) h = remainder_down_within a b h

pub modulo_within : (a b : Num) → IsWithin a → IsWithin b → IsWithin (modulo a b)
modulo_within (Fixed a) (Fixed b) h g = finite_within a b g
modulo_within (Fixed a) Inf h g = h
modulo_within (Fixed a) NegInf h g = h
modulo_within (Fixed a) Nan h g = tt
modulo_within Inf b h g = tt
modulo_within NegInf b h g = tt
modulo_within Nan b h g = tt

-- the limit is a whole number
floor_size : (a : ℤ) → unsigned_abs a ≤ limit → unsigned_abs (floor_quotient a million *ℤ million) ≤ limit
floor_size (pos n) h = omega (arith, ints, h)
floor_size (negsuc n) h = omega (arith, ints, h)

pub floor_within : (a : Num) → IsWithin a → IsWithin (floor a)
floor_within (Fixed a) h = floor_size a h
floor_within Inf h = tt
floor_within NegInf h = tt
floor_within Nan h = tt

pub ceiling_within : (a : Num) → IsWithin a → IsWithin (ceiling a)
ceiling_within a h = negated_within (floor (negated a)) (floor_within (negated a) (negated_within a h))

rounded_by : (a b : ℤ) → b ≡ a +ℤ pos 500000 → unsigned_abs a ≤ limit → unsigned_abs (floor_quotient b million *ℤ million) ≤ limit
rounded_by a (pos n) e h = omega (arith, ints, e, h)
rounded_by a (negsuc n) e h = omega (arith, ints, e, h)

rounded_size : (a : ℤ) → unsigned_abs a ≤ limit → unsigned_abs (floor_quotient (a +ℤ pos 500000) million *ℤ million) ≤ limit
rounded_size a h = rounded_by a (a +ℤ pos 500000) refl h

pub round_within : (a : Num) → IsWithin a → IsWithin (round a)
round_within (Fixed a) h = rounded_size a h
round_within Inf h = tt
round_within NegInf h = tt
round_within Nan h = tt

pub abs_within : (a : Num) → IsWithin a → IsWithin (abs a)
abs_within (Fixed a) h = h
abs_within Inf h = tt
abs_within NegInf h = tt
abs_within Nan h = tt

-- Roots and angles

pub sqrt_within : (a : Num) → IsWithin (sqrt a)
sqrt_within (Fixed (pos n)) = number_within (pos (root_of (n * 1000000)))
sqrt_within (Fixed (negsuc n)) = tt
sqrt_within Inf = tt
sqrt_within NegInf = tt
sqrt_within Nan = tt

pub sin_within : (a : Num) → IsWithin (sin a)
sin_within (Fixed a) = number_within (sine_to_360 (turn a))
sin_within Inf = tt
sin_within NegInf = tt
sin_within Nan = tt

pub cos_within : (a : Num) → IsWithin (cos a)
cos_within (Fixed a) = number_within (sine_to_360 (turn (pos (turn a + 90000000))))
cos_within Inf = tt
cos_within NegInf = tt
cos_within Nan = tt

pub tan_within : (a : Num) → IsWithin (tan a)
tan_within a = div_within (sin a) (cos a)

pub asin_within : (a : Num) → IsWithin (asin a)
asin_within (Fixed (pos v)) = if_within (nat_le v 1000000) (number (pos (arcsine v))) Nan (number_within (pos (arcsine v))) tt
asin_within (Fixed (negsuc v)) = if_within (nat_le (suc v) 1000000) (number (neg_ℤ (pos (arcsine (suc v))))) Nan (number_within (neg_ℤ (pos (arcsine (suc v))))) tt
asin_within Inf = tt
asin_within NegInf = tt
asin_within Nan = tt

pub acos_within : (a : Num) → IsWithin (acos a)
acos_within a = sub_within (degrees 90) (asin a)

to_45_within : (a : Num) → IsWithin (atan_to_45 a)
unfolding atan_to_45
to_45_within a = asin_within (div a (sqrt (add (degrees 1) (mul a a))))

pub atan_within : (a : Num) → IsWithin (atan a)
atan_within (Fixed (pos v)) = if_within (nat_le v 1000000) (atan_to_45 (Fixed (pos v))) (sub (degrees 90) (atan_to_45 (div (degrees 1) (Fixed (pos v)))))
    (to_45_within (Fixed (pos v))) (sub_within (degrees 90) (atan_to_45 (div (degrees 1) (Fixed (pos v)))))
atan_within (Fixed (negsuc v)) = if_within (nat_le (suc v) 1000000) (atan_to_45 (Fixed (negsuc v))) (sub (Fixed (neg_ℤ (pos 90000000))) (atan_to_45 (div (degrees 1) (Fixed (negsuc v)))))
    (to_45_within (Fixed (negsuc v))) (sub_within (Fixed (neg_ℤ (pos 90000000))) (atan_to_45 (div (degrees 1) (Fixed (negsuc v)))))
atan_within Inf = omega arith
atan_within NegInf = omega (arith, ints)
atan_within Nan = tt

direction_of_within : (dy dx : ℤ) → IsWithin (direction_of dy dx)
direction_of_within (pos zero) (pos zero) = omega arith
direction_of_within (pos (suc dy)) (pos zero) = omega arith
direction_of_within (negsuc dy) (pos zero) = omega (arith, ints)
direction_of_within (pos zero) (pos (suc dx)) = atan_within (div (Fixed (pos zero)) (Fixed (pos (suc dx))))
direction_of_within (pos (suc dy)) (pos (suc dx)) = atan_within (div (Fixed (pos (suc dy))) (Fixed (pos (suc dx))))
direction_of_within (negsuc dy) (pos (suc dx)) = atan_within (div (Fixed (negsuc dy)) (Fixed (pos (suc dx))))
direction_of_within (pos zero) (negsuc dx) = add_within (atan (div (Fixed (pos zero)) (Fixed (negsuc dx)))) (degrees 180)
direction_of_within (pos (suc dy)) (negsuc dx) = add_within (atan (div (Fixed (pos (suc dy))) (Fixed (negsuc dx)))) (degrees 180)
direction_of_within (negsuc dy) (negsuc dx) = sub_within (atan (div (Fixed (negsuc dy)) (Fixed (negsuc dx)))) (degrees 180)

-- Texts and values

signed_within : (b : Bool) (n : Num) → IsWithin n → IsWithin (with_sign b n)
signed_within false n h = h
signed_within true n h = negated_within n h

based_within : (base : ℕ) (ds : List ℕ) → IsWithin (based_number base ds)
unfolding based_number
based_within base ds = if_within (is_numeral base ds) (number (pos (digits_value base ds * 1000000))) Nan (number_within (pos (digits_value base ds * 1000000))) tt

decimal_within : (ds fs : List ℕ) (o : Option (Bool × ℕ)) → IsWithin (decimal_number ds fs o)
unfolding decimal_number
decimal_within ds fs None = tt
decimal_within ds fs (Some e) = if_within (nat_lt 0 (length ds + length fs)) (number (pos (decimal_size (digits_value 10 (ds ++ fs)) (length fs) e.0 e.1))) Nan (number_within (pos (decimal_size (digits_value 10 (ds ++ fs)) (length fs) e.0 e.1))) tt

unsigned_within : (t : List ℕ) → IsWithin (unsigned_number t)
unfolding unsigned_number
unsigned_within t = if_within (bytes_eq t (codes "Infinity")) Inf (decimal_number (digits_front t) (fraction_front (after_digits t)) (exponent_of (after_fraction (after_digits t)))) tt
    (decimal_within (digits_front t) (fraction_front (after_digits t)) (exponent_of (after_fraction (after_digits t))))

trimmed_within : (t : List ℕ) → IsWithin (trimmed_number t)
unfolding trimmed_number
trimmed_within [] = omega arith
trimmed_within (c ∷ cs) = if_within (nat_lt 0 (base_of (c ∷ cs))) (based_number (base_of (c ∷ cs)) (drop 2 (c ∷ cs))) (with_sign (has_minus (c ∷ cs)) (unsigned_number (without_sign (c ∷ cs))))
    (based_within (base_of (c ∷ cs)) (drop 2 (c ∷ cs))) (signed_within (has_minus (c ∷ cs)) (unsigned_number (without_sign (c ∷ cs))) (unsigned_within (without_sign (c ∷ cs))))

counted_within : (n : Num) → IsWithin n → IsWithin (casts.counted n)
counted_within (Fixed z) h = h
counted_within Inf h = tt
counted_within NegInf h = tt
counted_within Nan h = omega arith

pub zero_within : IsWithin casts.zero_number
zero_within = omega arith

pub cast_within : (v : Value) → IsValueWithin v → IsWithin (casts.number v)
cast_within (Number n) h = counted_within n h
cast_within (Truth true) h = omega arith
cast_within (Truth false) h = omega arith
cast_within (Text t) h = counted_within (number_of t) (trimmed_within (trim t))
