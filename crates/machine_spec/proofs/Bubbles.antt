-- How many characters texts of bubbles have.
use Rattle.std.proofs.Common.{◌≡◌, ◌≤◌, true, false, ℕ, zero, suc, ◌+◌, ◌-◌, List, [], ◌∷◌, refl, inl, inr, arith}
use Rattle.std.proofs.lemmas.Bool.{cases_Bool}
use Rattle.std.proofs.Math.Dec.{eqb-suc-zero}
use Rattle.std.proofs.lemmas.List.{append-nil}
use Rattle.std.specs.Fmt.{format_spec, is_char_start, char_count, take_chars, padded, styled_text}
use Rattle.machine_spec.specs.BubbleText.{cut}

pub char_count-nil : char_count [] ≡ 0
unfolding char_count
char_count-nil = refl

char_count-cons : (b : ℕ) (t : List ℕ) → char_count (b ∷ t) ≤ 1 + char_count t
unfolding char_count
char_count-cons b t = elim (cases_Bool (is_char_start b)) [
  | inl y ↦ rw y (omega arith)
  | inr n ↦ rw n (omega arith)
]

char_count-none : (b : ℕ) (t : List ℕ) → is_char_start b ≡ false → char_count (b ∷ t) ≡ char_count t
unfolding char_count
char_count-none b t n = rw n (omega arith)

take_chars-nil : (n : ℕ) → take_chars n [] ≡ []
unfolding take_chars
take_chars-nil n = refl

take_chars-none : (b : ℕ) (t : List ℕ) → is_char_start b ≡ true → take_chars zero (b ∷ t) ≡ []
unfolding take_chars
take_chars-none b t y = rw y refl

take_chars-start : (n b : ℕ) (t : List ℕ) → is_char_start b ≡ true → take_chars (suc n) (b ∷ t) ≡ b ∷ take_chars n t
unfolding take_chars
take_chars-start n b t y =
    let e : suc n - 1 ≡ n = omega arith in
    rw y (rw (eqb-suc-zero n) (rw e refl))

take_chars-inside : (n b : ℕ) (t : List ℕ) → is_char_start b ≡ false → take_chars n (b ∷ t) ≡ b ∷ take_chars n t
unfolding take_chars
take_chars-inside n b t o = rw o refl

-- the first n characters are no more than n
pub char_count-take_chars : (n : ℕ) (t : List ℕ) → char_count (take_chars n t) ≤ n
char_count-take_chars n [] = rw (take_chars-nil n) (rw char_count-nil (omega arith))
char_count-take_chars zero (b ∷ t) = elim (cases_Bool (is_char_start b)) [
  | inl y ↦ rw (take_chars-none b t y) (rw char_count-nil (omega arith))
  | inr o ↦ rw (take_chars-inside zero b t o) (omega (arith, char_count-none b (take_chars zero t) o, char_count-take_chars zero t))
]
char_count-take_chars (suc n) (b ∷ t) = elim (cases_Bool (is_char_start b)) [
  | inl y ↦ rw (take_chars-start n b t y) (omega (arith, char_count-cons b (take_chars n t), char_count-take_chars n t))
  | inr o ↦ rw (take_chars-inside (suc n) b t o) (omega (arith, char_count-none b (take_chars (suc n) t) o, char_count-take_chars (suc n) t))
]

-- what a precision of as many characters as a bubble has writes
pub styled-cut : (t : List ℕ) → styled_text (format_spec 32 0 0 0 330) t ≡ cut t
unfolding padded
styled-cut t =
    let none : 0 - char_count (take_chars 330 t) ≡ 0 = omega arith in
    rw none (append-nil (take_chars 330 t))
