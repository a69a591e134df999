-- Numbers that are kept within bounds, and directions.
use Rattle.std.proofs.Common.{Less, Equal, Greater, ◌≡◌, suc, ◌≤◌, Bool, true, false, if◌then◌else◌, refl, sym, subst, arith}
use Rattle.std.specs.Prelude.{ℤ, pos, negsuc, ◌+ℤ◌, ◌-ℤ◌, ◌*ℤ◌, int_le, int_lt, unsigned_abs, nat_le}
use Rattle.std.specs.Ordering.{is_lt, int_cmp}
use Rattle.std.proofs.lemmas.Int.{ints}
use Rattle.std.proofs.lemmas.Bool.Decides.{nat_tests}
use Rattle.scratch_number.specs.declared.number.Num.{Num}
use Rattle.scratch_number.specs.declared.number.Num.TheVariants.{Fixed, Inf, NegInf, Nan}
use Rattle.scratch_number.specs.Number.{number, floor_by, limit}
use Rattle.scratch_number.specs.Arithmetic.{add}
use Rattle.scratch_number.proofs.Remainders.{number-small}
use Rattle.scratch_values.specs.declared.value.Value.{Value}
use Rattle.scratch_values.specs.declared.value.Value.TheVariants.{Number, Truth, Text}
use Rattle.scratch_values.specs.Casts as casts
use Rattle.scratch_number.specs.Reading.{number_of}
use Rattle.machine_spec.specs.Numbers.{kept_in, direction_after}
use Rattle.laws_of_threads.specs.Playable.{IsBetween, IsDirection}

-- a number other than not-a-number
abbrev pub IsNumber : Num → Type 0
IsNumber (Fixed z) = Unit {0}
IsNumber Inf = Unit {0}
IsNumber NegInf = Unit {0}
IsNumber Nan = ⊥

counted_number : (n : Num) → IsNumber (casts.counted n)
counted_number (Fixed z) = tt
counted_number Inf = tt
counted_number NegInf = tt
counted_number Nan = tt

-- what a value counts in a sum is a number
pub cast_number : (v : Value) → IsNumber (casts.number v)
cast_number (Number n) = counted_number n
cast_number (Truth true) = tt
cast_number (Truth false) = tt
cast_number (Text t) = counted_number (number_of t)

number_by : (c : Bool) (a b : Num) → IsNumber a → IsNumber b → IsNumber (if c then a else b)
number_by true a b h g = h
number_by false a b h g = g

pub number_number : (z : ℤ) → IsNumber (number z)
number_number (pos n) = number_by (nat_le n limit) (Fixed (pos n)) Inf tt tt
number_number (negsuc n) = number_by (nat_le (suc n) limit) (Fixed (negsuc n)) NegInf tt tt

-- the sum of a finite number and a number
pub sum_number : (low high : ℤ) (a b : Num) → IsBetween low high a → IsNumber b → IsNumber (add a b)
sum_number low high (Fixed a) (Fixed b) h g = number_number (a +ℤ b)
sum_number low high (Fixed a) Inf h g = tt
sum_number low high (Fixed a) NegInf h g = tt
sum_number low high (Fixed a) Nan h g = absurd g
sum_number low high Inf b h g = absurd h
sum_number low high NegInf b h g = absurd h
sum_number low high Nan b h g = absurd h

-- Bounds

less_by : (a b : ℤ) (c d : Bool) → int_lt a b ≡ c → is_lt (if c then Less else (if d then Greater else Equal)) ≡ false → int_le b a ≡ true
less_by a b true d e h = absurd (cc h)
less_by a b false d e h = grind (arith, ints)

less_tells : (a b : ℤ) → is_lt (int_cmp a b) ≡ false → int_le b a ≡ true
less_tells a b h = less_by a b (int_lt a b) (int_lt b a) refl h

itself : (a : ℤ) → int_le a a ≡ true
itself a = grind (arith, ints)

kept_by : (a b z : ℤ) (c d : Bool) → int_le a b ≡ true → is_lt (int_cmp z a) ≡ c → is_lt (int_cmp b z) ≡ d → IsBetween a b (if c then Fixed a else (if d then Fixed b else Fixed z))
kept_by a b z true d h e f = (itself a, h)
kept_by a b z false true h e f = (h, itself b)
kept_by a b z false false h e f = (less_tells z a e, less_tells b z f)

pub kept_between : (a b : ℤ) (n : Num) → int_le a b ≡ true → IsNumber n → IsBetween a b (kept_in (Fixed a) (Fixed b) n)
kept_between a b (Fixed z) h g = kept_by a b z (is_lt (int_cmp z a)) (is_lt (int_cmp b z)) h refl refl
kept_between a b Inf h g = (h, itself b)
kept_between a b NegInf h g = (itself a, h)
kept_between a b Nan h g = absurd g

-- Directions

turned_within : (d s q : ℤ) → d +ℤ pos 179000000 ≡ s → floor_by s 360000000 ≡ q → (int_le (negsuc 178999999) (d -ℤ (pos 360000000 *ℤ q)) ≡ true) × (int_le (d -ℤ (pos 360000000 *ℤ q)) (pos 180999999) ≡ true)
turned_within d (pos n) q e f = (grind (arith, ints), grind (arith, ints))
turned_within d (negsuc n) q e f = (grind (arith, ints), grind (arith, ints))

small_abs : (z : ℤ) → int_le (negsuc 178999999) z ≡ true → int_le z (pos 180999999) ≡ true → unsigned_abs z ≤ 9000000000000000000
small_abs (pos n) a b = grind (arith, ints, nat_tests)
small_abs (negsuc n) a b = grind (arith, ints, nat_tests)

turned : (z : ℤ) → (int_le (negsuc 178999999) z ≡ true) × (int_le z (pos 180999999) ≡ true) → IsDirection (number z)
turned z h = subst IsDirection (sym (number-small z (small_abs z h.0 h.1))) h

pub direction_kept : (d now : Num) → IsDirection now → IsDirection (direction_after d now)
direction_kept (Fixed d) now h = turned (d -ℤ (pos 360000000 *ℤ floor_by (d +ℤ pos 179000000) 360000000)) (turned_within d (d +ℤ pos 179000000) (floor_by (d +ℤ pos 179000000) 360000000) refl refl)
direction_kept Inf now h = h
direction_kept NegInf now h = h
direction_kept Nan now h = h
