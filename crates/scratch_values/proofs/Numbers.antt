-- The text of each number of a text has at most 24 bytes.
use Rattle.std.proofs.Common.{◌≡◌, ℕ, zero, suc, ◌+◌, ◌*◌, ◌/◌, ◌%◌, ◌^◌, ◌<◌, ◌≤◌, ◌==◌, ℤ, pos, negsuc, Bool, true, false, nat_le, nat_lt, if◌then◌else◌, List, [], ◌∷◌, ◌++◌, length, drop, codes, Option, Some, None, refl, arith, leb-true, length-append, lit≤, lit<}
use Rattle.std.specs.Fmt.{decimal}
use Rattle.std.specs.Str.{trim, bytes_eq}
use Rattle.std.specs.Str.Parse.{digits_value}
use Rattle.std.proofs.lemmas.Fmt.{length-decimal-le}
use Rattle.scratch_number.specs.declared.number.Num.{Num}
use Rattle.scratch_number.specs.declared.number.Num.TheVariants.{Fixed, Inf, NegInf, Nan}
use Rattle.scratch_number.specs.Number.{IsWithin, limit, negated, number}
use Rattle.scratch_number.specs.Grammar.{decimal_size, with_sign}
use Rattle.scratch_number.specs.Reading.{after_digits, after_fraction, base_of, based_number, decimal_number, digits_front, exponent_of, fraction_front, has_minus, is_numeral, number_of, trimmed_number, unsigned_number, without_sign}
use Rattle.scratch_number.specs.Text.{text_of, size_text, fraction_text, fraction_digits}

IsWithin-if : (b : Bool) (x y : Num) → (b ≡ true → IsWithin x) → IsWithin y → IsWithin (if b then x else y)
IsWithin-if true x y hx hy = hx refl
IsWithin-if false x y hx hy = hy

IsWithin-number : (z : ℤ) → IsWithin (number z)
IsWithin-number (pos n) = IsWithin-if (nat_le n limit) (Fixed (pos n)) Inf (λ h. leb-true n limit h) tt
IsWithin-number (negsuc n) = IsWithin-if (nat_le (suc n) limit) (Fixed (negsuc n)) NegInf (λ h. leb-true (suc n) limit h) tt

IsWithin-negated : (n : Num) → IsWithin n → IsWithin (negated n)
IsWithin-negated (Fixed (pos zero)) h = h
IsWithin-negated (Fixed (pos (suc n))) h = h
IsWithin-negated (Fixed (negsuc n)) h = h
IsWithin-negated Inf h = tt
IsWithin-negated NegInf h = tt
IsWithin-negated Nan h = tt

IsWithin-with_sign : (b : Bool) (n : Num) → IsWithin n → IsWithin (with_sign b n)
IsWithin-with_sign true n h = IsWithin-negated n h
IsWithin-with_sign false n h = h

IsWithin-decimal_number : (ds fs : List ℕ) (e : Option (Bool × ℕ)) → IsWithin (decimal_number ds fs e)
unfolding decimal_number
IsWithin-decimal_number ds fs None = tt
IsWithin-decimal_number ds fs (Some e) =
    let z : ℤ = pos (decimal_size (digits_value 10 (ds ++ fs)) (length fs) e.0 e.1) in
    IsWithin-if (nat_lt 0 (length ds + length fs)) (number z) Nan (λ _. IsWithin-number z) tt

IsWithin-unsigned_number : (t : List ℕ) → IsWithin (unsigned_number t)
unfolding unsigned_number
IsWithin-unsigned_number t =
    let ds : List ℕ = digits_front t in
    let fs : List ℕ = fraction_front (after_digits t) in
    let e : Option (Bool × ℕ) = exponent_of (after_fraction (after_digits t)) in
    IsWithin-if (bytes_eq t (codes "Infinity")) Inf (decimal_number ds fs e) (λ _. tt) (IsWithin-decimal_number ds fs e)

IsWithin-based_number : (base : ℕ) (ds : List ℕ) → IsWithin (based_number base ds)
unfolding based_number
IsWithin-based_number base ds =
    let z : ℤ = pos (digits_value base ds * 1000000) in
    IsWithin-if (is_numeral base ds) (number z) Nan (λ _. IsWithin-number z) tt

IsWithin-trimmed_number : (t : List ℕ) → IsWithin (trimmed_number t)
unfolding trimmed_number
IsWithin-trimmed_number [] = lit≤ tt
IsWithin-trimmed_number (c ∷ cs) =
    let t : List ℕ = c ∷ cs in
    IsWithin-if (nat_lt 0 (base_of t)) (based_number (base_of t) (drop 2 t)) (with_sign (has_minus t) (unsigned_number (without_sign t)))
    (λ _. IsWithin-based_number (base_of t) (drop 2 t))
    (IsWithin-with_sign (has_minus t) (unsigned_number (without_sign t)) (IsWithin-unsigned_number (without_sign t)))

-- the number of a text is within the limit
pub IsWithin-number_of : (t : List ℕ) → IsWithin (number_of t)
IsWithin-number_of t = IsWithin-trimmed_number (trim t)

length-if : (b : Bool) (xs ys : List ℕ) (k : ℕ) → length xs ≤ k → length ys ≤ k → length (if b then xs else ys) ≤ k
length-if true xs ys k hx hy = hx
length-if false xs ys k hx hy = hy

length-fraction_digits : (places f : ℕ) → length (fraction_digits places f) ≤ places
unfolding fraction_digits
length-fraction_digits zero f = omega arith
length-fraction_digits (suc places) f =
    let tail = length-fraction_digits places (f % 10 ^ places) in
    length-if (f == 0) [] _ (suc places) (omega arith) (omega (arith, tail))

length-size_text : (n : ℕ) → n ≤ limit → length (size_text n) ≤ 20
unfolding size_text fraction_text
length-size_text n h =
    let small : n / 1000000 < 10 ^ 13 = omega arith in
    let whole : length (decimal (n / 1000000)) ≤ 13 = length-decimal-le 13 (n / 1000000) (lit< tt) small (omega arith) in
    let digits : length (fraction_digits 6 (n % 1000000)) ≤ 6 = length-fraction_digits 6 (n % 1000000) in
    let back : length (fraction_text (n % 1000000)) ≤ 7 = length-if (n % 1000000 == 0) [] _ 7 (omega arith) (omega (arith, digits)) in
    omega (arith, whole, back, length-append (decimal (n / 1000000)) (fraction_text (n % 1000000)))

-- a number within the limit has a text of at most 24 bytes
pub length-text_of : (n : Num) → IsWithin n → length (text_of n) ≤ 24
length-text_of (Fixed (pos n)) h = omega (arith, length-size_text n h)
length-text_of (Fixed (negsuc n)) h = omega (arith, length-size_text (suc n) h)
length-text_of Inf h = lit≤ tt
length-text_of NegInf h = lit≤ tt
length-text_of Nan h = lit≤ tt
