-- The parts that a text is read in.
use Rattle.std.proofs.Common.{◌≡◌, ℕ, ◌+◌, ◌<◌, ◌≤◌, Bool, false, not, if◌then◌else◌, nat_lt, List, [], ◌∷◌, length, take, drop, inl, inr, refl, sym, ap, ◌∙◌, arith}
use Rattle.std.specs.Prelude.{◌==◌, min, Option, Some, None, unwrap_or, codes}
use Rattle.std.specs.Str.{bytes_eq}
use Rattle.std.proofs.Math.Numerals.{one-add}
use Rattle.std.specs.Str.Parse.{AllDigits}
use Rattle.std.specs.List.{prefix_len, position}
use Rattle.std.proofs.lemmas.List.Sums.{prefix_len-le-length}
use Rattle.std.proofs.lemmas.Bool.{cond_both, cases_Bool, cond-false, ltb-true, ltb-false}
use Rattle.scratch_number.specs.Reading.{after_digits, after_fraction, base_of, base_of_letter, digit_run, digits_front, fraction_front, is_digit, cap, capped_exponent, exponent_of, decimal_number, unsigned_number}
use Rattle.scratch_number.specs.declared.number.Num.{Num}
use Rattle.scratch_number.specs.declared.number.Num.TheVariants.{Nan}

-- a text of less than two characters begins with no base
pub base_of-short : (t : List ℕ) → length t < 2 → base_of t ≡ 0
unfolding base_of base_of_letter
base_of-short [] short = refl
base_of-short (c ∷ []) short = cond_both (c == 48) 0 0 (λ x. x ≡ 0) (λ e. refl) (λ e. refl)
base_of-short (c ∷ d ∷ cs) short = absurd (omega arith)

not_not : (t : List ℕ) → prefix_len (λ c. not (not (is_digit 10 c))) t ≡ prefix_len (is_digit 10) t
not_not [] = refl
not_not (c ∷ cs) = elim (cases_Bool (is_digit 10 c)) [
  | inl digit ↦ rw digit (ap (λ (k : ℕ). 1 + k) (not_not cs))
  | inr other ↦ rw other refl
]

position_or-length : (n k : ℕ) → n ≤ k → unwrap_or (if nat_lt n k then Some n else None) k ≡ n
position_or-length n k within = elim (cases_Bool (nat_lt n k)) [
  | inl before ↦ rw before refl
  | inr behind ↦ rw behind (omega (arith, ltb-false n k behind))
]

-- the digits at the front end at the first byte that is none, or at the end
pub digit_run-position : (t : List ℕ) → unwrap_or (position (λ c. not (is_digit 10 c)) t) (length t) ≡ digit_run t
unfolding digit_run
digit_run-position t =
    position_or-length _ (length t) (prefix_len-le-length (λ c. not (not (is_digit 10 c))) t) ∙ not_not t

digits_take-all : (t : List ℕ) → AllDigits 10 (take (prefix_len (is_digit 10) t) t)
digits_take-all [] = tt
digits_take-all (c ∷ cs) = elim (cases_Bool (is_digit 10 c)) [
  | inl digit ↦ rw (digit, one-add) (ltb-true _ _ digit, digits_take-all cs)
  | inr other ↦ rw other tt
]

-- the digits that a text begins with are digits
pub digits_front-all : (t : List ℕ) → AllDigits 10 (digits_front t)
unfolding digits_front digit_run
digits_front-all t = digits_take-all t

pub fraction_front-all : (t : List ℕ) → AllDigits 10 (fraction_front t)
unfolding fraction_front
fraction_front-all [] = tt
fraction_front-all (c ∷ cs) = cond_both (c == 46) (digits_front cs) [] (λ xs. AllDigits 10 xs) (λ e. digits_front-all cs) (λ e. tt)

some-injective : (p q : Bool × ℕ) → Some p ≡ Some q → p ≡ q
some-injective p q h = ap (λ (o : Option (Bool × ℕ)). unwrap_or o p) h

-- an exponent that was cut is some exponent
exponent-some : (o : Option (Bool × ℕ)) (down : Bool) (size : ℕ) → Some (down, size) ≡ capped_exponent o → (e : ℕ) × (o ≡ Some (down, e)) × (size ≡ min e cap)
exponent-some None down size h = cc
exponent-some (Some (sign, e)) down size h =
    let pair : (down, size) ≡ (sign, min e cap) = some-injective (down, size) (sign, min e cap) h in
    (e, ap (λ (p : Bool × ℕ). Some (p.0, e)) (sym pair), ap (λ (p : Bool × ℕ). p.1) pair)

exponent-none : (o : Option (Bool × ℕ)) → None ≡ capped_exponent o → o ≡ None
exponent-none None h = refl
exponent-none (Some e) h = cc

-- a text that is not `Infinity`, from its parts
pub unsigned_number-some : (t digits rest fraction last : List ℕ) (n size : ℕ) (down : Bool) (o : Option (Bool × ℕ)) (r : Num) → bytes_eq t (codes "Infinity") ≡ false → n ≡ digit_run t → digits ≡ take n t → rest ≡ drop n t → fraction ≡ fraction_front rest → last ≡ after_fraction rest → o ≡ capped_exponent (exponent_of last) → o ≡ Some (down, size) → ((e : ℕ) → size ≡ min e cap → r ≡ decimal_number digits fraction (Some (down, e))) → r ≡ unsigned_number t
unfolding unsigned_number digits_front after_digits
unsigned_number-some t digits rest fraction last n size down o r other run front back point left read is given =
    let known = exponent-some (exponent_of last) down size (sym is ∙ read) in
    let whole : digits ≡ digits_front t = front ∙ ap (λ (k : ℕ). take k t) run in
    let behind : rest ≡ after_digits t = back ∙ ap (λ (k : ℕ). drop k t) run in
    given known.0 known.2
    ∙ ap (λ (o : Option (Bool × ℕ)). decimal_number digits fraction o) (sym known.1)
    ∙ ap (λ (xs : List ℕ). decimal_number xs fraction (exponent_of last)) whole
    ∙ ap (λ (xs : List ℕ). decimal_number (digits_front t) xs (exponent_of last)) (point ∙ ap (λ (ys : List ℕ). fraction_front ys) behind)
    ∙ ap (λ (xs : List ℕ). decimal_number (digits_front t) (fraction_front (after_digits t)) (exponent_of xs)) (left ∙ ap (λ (ys : List ℕ). after_fraction ys) behind)
    ∙ sym (cond-false _ _ _ other)

pub unsigned_number-none : (t rest last : List ℕ) (n : ℕ) (o : Option (Bool × ℕ)) → bytes_eq t (codes "Infinity") ≡ false → n ≡ digit_run t → rest ≡ drop n t → last ≡ after_fraction rest → o ≡ capped_exponent (exponent_of last) → o ≡ None → Nan ≡ unsigned_number t
unfolding unsigned_number after_digits decimal_number
unsigned_number-none t rest last n o other run back left read is =
    let behind : rest ≡ after_digits t = back ∙ ap (λ (k : ℕ). drop k t) run in
    let known : exponent_of (after_fraction (after_digits t)) ≡ None =
    ap (λ (ys : List ℕ). exponent_of (after_fraction ys)) (sym behind) ∙ ap (λ (xs : List ℕ). exponent_of xs) (sym left) ∙ exponent-none (exponent_of last) (sym is ∙ read) in
    ap (λ (o : Option (Bool × ℕ)). decimal_number (digits_front t) (fraction_front (after_digits t)) o) (sym known) ∙ sym (cond-false _ _ _ other)
