-- The numbers of digit forms with exponents, from values that are cut at the cap.
use Rattle.std.proofs.Common.{◌≡◌, ℕ, ◌+◌, ◌-◌, ◌*◌, ◌/◌, ◌^◌, ◌<◌, ◌≤◌, min, List, ◌++◌, length, take, inl, inr, sym, ap, ◌∙◌, length-append, arith}
use Rattle.std.specs.Prelude.{pos, Bool, Some}
use Rattle.std.specs.Str.Parse.{AllDigits, digits_value}
use Rattle.std.proofs.lemmas.Bool.{cases_lt, cond-true, cond-false, lt-ltb, le-ltb}
use Rattle.std.proofs.lemmas.Int.Digits.{digits_value-lt}
use Rattle.std.proofs.lemmas.List.{take_all}
use Rattle.scratch_number.specs.declared.number.Num.{Num}
use Rattle.scratch_number.specs.declared.number.Num.TheVariants.{Nan}
use Rattle.scratch_number.specs.Number.{near_size, number}
use Rattle.scratch_number.specs.Grammar.{decimal_size}
use Rattle.scratch_number.specs.Reading.{decimal_number}
use Rattle.scratch_number.proofs.Rounding.{near-up, near-down, number-capped, number-capped_part, decimal_size-far}
use Rattle.scratch_number.proofs.Digits.{digits_value-take, AllDigits-append}

-- digits that move up, or stay
pub shifted-up : (ds : List ℕ) (v s count raise lower : ℕ) → lower ≤ raise → length ds ≤ count → v ≡ min (digits_value 10 (take count ds)) 100000000000000000000 → number (pos s) ≡ number (pos (v * 10 ^ (raise - lower))) → number (pos s) ≡ number (pos (near_size (digits_value 10 ds * 10 ^ raise) (10 ^ lower)))
shifted-up ds v s count raise lower up whole cut e =
    let n : ℕ = digits_value 10 ds in
    let same : v ≡ min n 100000000000000000000 = cut ∙ ap (λ (xs : List ℕ). min (digits_value 10 xs) 100000000000000000000) (take_all count ds whole) in
    e ∙ ap (λ (x : ℕ). number (pos (x * 10 ^ (raise - lower)))) same
    ∙ number-capped n (10 ^ (raise - lower))
    ∙ sym (ap (λ (x : ℕ). number (pos x)) (near-up n raise lower up))

-- digits that move down
pub shifted-down : (ds : List ℕ) (v kept raise lower : ℕ) → AllDigits 10 ds → raise < lower → kept ≡ length ds - (lower - raise - 1) → v ≡ min (digits_value 10 (take kept ds)) 100000000000000000000 → number (pos ((v + 5) / 10)) ≡ number (pos (near_size (digits_value 10 ds * 10 ^ raise) (10 ^ lower)))
shifted-down ds v kept raise lower all down front cut =
    let k : ℕ = lower - raise - 1 in
    let n : ℕ = digits_value 10 ds in
    let first : digits_value 10 (take kept ds) ≡ n / 10 ^ k = ap (λ (i : ℕ). digits_value 10 (take i ds)) front ∙ sym (digits_value-take ds k all) in
    ap (λ (x : ℕ). number (pos ((x + 5) / 10))) (cut ∙ ap (λ (x : ℕ). min x 100000000000000000000) first)
    ∙ number-capped_part (n / 10 ^ k)
    ∙ sym (ap (λ (x : ℕ). number (pos x)) (near-down n raise lower down))

-- an exponent that is cut gives the same number
pub decimal_size-cut : (ds : List ℕ) (places e : ℕ) (down : Bool) → AllDigits 10 ds → length ds < 2 ^ 65 → places ≤ length ds → number (pos (decimal_size (digits_value 10 ds) places down (min e 100000000000000000000))) ≡ number (pos (decimal_size (digits_value 10 ds) places down e))
decimal_size-cut ds places e down all short few = elim (cases_lt 100000000000000000000 e) [
  | inl large ↦
      decimal_size-far (digits_value 10 ds) (length ds) places (min e 100000000000000000000) e down (digits_value-lt 10 ds all) (omega arith) (omega arith) (omega arith) (omega arith)
  | inr small ↦
      let same : min e 100000000000000000000 ≡ e = omega arith in
      ap (λ (x : ℕ). number (pos (decimal_size (digits_value 10 ds) places down x))) same
]

-- the number of a digit form and an exponent, from an exponent that is cut
pub decimal_number-is : (ds fs : List ℕ) (down : Bool) (size e s : ℕ) (r : Num) → AllDigits 10 ds → AllDigits 10 fs → 0 < length ds + length fs → length ds + length fs < 2 ^ 65 → size ≡ min e 100000000000000000000 → number (pos s) ≡ number (pos (decimal_size (digits_value 10 (ds ++ fs)) (length fs) down size)) → r ≡ number (pos s) → r ≡ decimal_number ds fs (Some (down, e))
unfolding decimal_number
decimal_number-is ds fs down size e s r all all' some short cut is known =
    known ∙ is
    ∙ ap (λ (x : ℕ). number (pos (decimal_size (digits_value 10 (ds ++ fs)) (length fs) down x))) cut
    ∙ decimal_size-cut (ds ++ fs) (length fs) e down (AllDigits-append 10 ds fs all all') (omega (arith, length-append ds fs)) (omega (arith, length-append ds fs))
    ∙ sym (cond-true _ _ _ (lt-ltb 0 (length ds + length fs) some))

-- no digit is no number
pub decimal_number-none : (ds fs : List ℕ) (e : Bool × ℕ) → length ds + length fs ≡ 0 → Nan ≡ decimal_number ds fs (Some e)
unfolding decimal_number
decimal_number-none ds fs e none = sym (cond-false _ _ _ (le-ltb 0 (length ds + length fs) (omega arith)))
