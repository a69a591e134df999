-- A bubble's text that is short enough is not cut.
use Rattle.std.proofs.Common.{◌≡◌, ℕ, ◌+◌, ◌-◌, ◌≤◌, ◌==◌, Bool, true, false, List, [], ◌∷◌, refl, ap, ◌∙◌, arith}
use Rattle.std.specs.Prelude.{if◌then◌else◌}
use Rattle.std.specs.Fmt.{is_char_start, char_count, take_chars}
use Rattle.std.proofs.lemmas.Bool.Decides.{nat_tests}

some_left : (n m : ℕ) → 1 + m ≤ n → (n == 0) ≡ false
some_left n m h = grind (arith, nat_tests)

taken_if : (c : Bool) (n b : ℕ) (t : List ℕ) → (if c then 1 else 0) + char_count t ≤ n → ((m : ℕ) → char_count t ≤ m → take_chars m t ≡ t)
    → (if c then (if n == 0 then [] else b ∷ take_chars (n - 1) t) else b ∷ take_chars n t) ≡ b ∷ t
taken_if true n b t h more = ap (λ z. if z then [] else b ∷ take_chars (n - 1) t) (some_left n (char_count t) h) ∙ ap (λ r. b ∷ r) (more (n - 1) (omega (arith, h)))
taken_if false n b t h more = ap (λ r. b ∷ r) (more n (omega (arith, h)))

pub take_all : (n : ℕ) (t : List ℕ) → char_count t ≤ n → take_chars n t ≡ t
unfolding take_chars char_count
take_all n [] h = refl
take_all n (b ∷ t) h = taken_if (is_char_start b) n b t h (λ m. take_all m t)
