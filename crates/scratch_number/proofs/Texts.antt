-- The texts of numbers: their digits and lengths.
use Rattle.std.proofs.Common.{◌≡◌, ℕ, zero, suc, ◌+◌, ◌-◌, ◌/◌, ◌%◌, ◌^◌, ◌<◌, ◌≤◌, List, [], ◌∷◌, ◌++◌, refl, sym, ap, ◌∙◌, length, length-append, arith}
use Rattle.std.proofs.lemmas.Bool.{cond-false, ne_eqb}
use Rattle.std.specs.Fmt.{decimal}
use Rattle.std.proofs.lemmas.Fmt.{decimal_step, decimal_digit}
use Rattle.std.proofs.lemmas.List.{append_assoc}
use Rattle.std.proofs.lemmas.Nat.{div_below}
use Rattle.std.proofs.Math.Nat.{pow-suc, one-le-pow, pow-le-pow_right}
use Rattle.scratch_number.specs.Text.{fraction_digits, fraction_text}

pub pow_ten_pos : (k : ℕ) → 0 < 10 ^ k
pow_ten_pos k = one-le-pow k 10 (omega arith)

pub pow_ten_small : (k : ℕ) → k < 6 → 10 ^ k ≤ 100000
pow_ten_small k h = let five : k ≤ 5 = omega arith in pow-le-pow_right {n = 10} (omega arith) five

pub fraction_digits-zero : (places : ℕ) → fraction_digits places 0 ≡ []
unfolding fraction_digits
fraction_digits-zero zero = refl
fraction_digits-zero (suc places) = refl

pub fraction_digits-more : (places f : ℕ) → 0 < f → 0 < places → fraction_digits places f ≡ (48 + f / 10 ^ (places - 1)) ∷ fraction_digits (places - 1) (f % 10 ^ (places - 1))
unfolding fraction_digits
fraction_digits-more zero f some h = absurd (omega arith)
fraction_digits-more (suc places) f some h =
    let e : suc places - 1 ≡ places = omega arith in
    rw e (cond-false _ _ _ (ne_eqb f 0 (λ q. omega (arith, q))))

-- the first digit of a fraction is a digit
pub first_digit-small : (places f : ℕ) → 0 < places → f < 10 ^ places → f / 10 ^ (places - 1) < 10
first_digit-small zero f h small = absurd (omega arith)
first_digit-small (suc places) f h small =
    let e : suc places - 1 ≡ places = omega arith in
    rw e (div_below f (10 ^ places) 10 (pow_ten_pos places) (omega (arith, pow-suc 10 places)))

pub fraction_text-zero : fraction_text 0 ≡ []
unfolding fraction_text
fraction_text-zero = refl

pub fraction_text-more : (f : ℕ) → 0 < f → fraction_text f ≡ 46 ∷ fraction_digits 6 f
unfolding fraction_text
fraction_text-more f some = cond-false _ _ _ (ne_eqb f 0 (λ q. omega (arith, q)))

-- a number of two digits or more is written as its tenth part and its last digit
pub decimal-more : (n : ℕ) (out outer last : List ℕ) → 10 ≤ n → n < 2 ^ 64 → outer ≡ out ++ decimal (n / 10) → last ≡ outer ++ (48 + n % 10) ∷ [] → last ≡ out ++ decimal n
decimal-more n out outer last large fits e f =
    f ∙ ap (λ (xs : List ℕ). xs ++ (48 + n % 10) ∷ []) e ∙ append_assoc out (decimal (n / 10)) ((48 + n % 10) ∷ []) ∙ ap (λ (xs : List ℕ). out ++ xs) (sym (decimal_step n large fits))

pub decimal-one : (n : ℕ) (out last : List ℕ) → n < 10 → last ≡ out ++ (48 + n % 10) ∷ [] → last ≡ out ++ decimal n
decimal-one n out last small f =
    let same : n % 10 ≡ n = omega arith in
    f ∙ ap (λ (xs : List ℕ). out ++ xs) (rw same (sym (decimal_digit n small)))

pub length-decimal-more : (n : ℕ) → 10 ≤ n → n < 2 ^ 64 → length (decimal n) ≡ length (decimal (n / 10)) + 1
length-decimal-more n large fits = ap length (decimal_step n large fits) ∙ length-append (decimal (n / 10)) ((48 + n % 10) ∷ [])

-- a list and one more element, before more
pub append-step : (out mid last : List ℕ) (d : ℕ) (ds all : List ℕ) → mid ≡ out ++ d ∷ [] → last ≡ mid ++ ds → all ≡ d ∷ ds → last ≡ out ++ all
append-step out mid last d ds all e f g = f ∙ ap (λ (xs : List ℕ). xs ++ ds) e ∙ append_assoc out (d ∷ []) ds ∙ ap (λ (xs : List ℕ). out ++ xs) (sym g)

-- a fraction that is not 0 has places
pub places-some : (places f : ℕ) → (f ≡ 0 → ⊥) → f < 10 ^ places → 0 < places
places-some zero f some small = absurd (some (omega arith))
places-some (suc places) f some small = omega arith
