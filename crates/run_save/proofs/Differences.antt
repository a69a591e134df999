-- The first place at which two texts differ.
use Rattle.std.proofs.Common.{◌≡◌, ℕ, suc, ◌+◌, ◌<◌, ◌≤◌, ◌==◌, Bool, true, false, cond, List, [], ◌∷◌, length, drop, get_or, ◌-◌, ◌⊎◌, inl, inr, length-drop, Option, None, Some, option_map, refl, ap, ◌∙◌, arith}
use Rattle.std.proofs.lemmas.Bool.Decides.{nat_tests}
use Rattle.std.proofs.lemmas.List.{drop_more}
use Rattle.saved_spec.specs.Refusals.{first_difference}

by_test : (a b : ℕ) (xs ys : List ℕ) (same : Bool) → (a == b) ≡ same → first_difference (a ∷ xs) (b ∷ ys) ≡ cond same (option_map suc (first_difference xs ys)) (Some 0)
unfolding first_difference
by_test a b xs ys same e = ap (λ c. cond c (option_map suc (first_difference xs ys)) (Some 0)) e

more : (at : ℕ) (o : Option ℕ) → option_map (λ n. at + n) (option_map suc o) ≡ option_map (λ n. at + 1 + n) o
more at None = refl
more at (Some n) = ap Some (omega arith)

pub goes_on : (left right : List ℕ) (at : ℕ) → at < length left → at < length right → get_or left at 0 ≡ get_or right at 0
    → option_map (λ n. at + n) (first_difference (drop at left) (drop at right)) ≡ option_map (λ n. at + 1 + n) (first_difference (drop (at + 1) left) (drop (at + 1) right))
goes_on left right at l r e =
    ap (option_map (λ n. at + n)) (ap (λ xs. first_difference xs (drop at right)) (drop_more left at 0 l) ∙ ap (first_difference (get_or left at 0 ∷ drop (at + 1) left)) (drop_more right at 0 r)
    ∙ by_test (get_or left at 0) (get_or right at 0) (drop (at + 1) left) (drop (at + 1) right) true (grind (arith, nat_tests, e)))
    ∙ more at (first_difference (drop (at + 1) left) (drop (at + 1) right))

pub stops : (left right : List ℕ) (at : ℕ) → at < length left → at < length right → (get_or left at 0 ≡ get_or right at 0 → ⊥)
    → option_map (λ n. at + n) (first_difference (drop at left) (drop at right)) ≡ Some at
stops left right at l r e =
    ap (option_map (λ n. at + n)) (ap (λ xs. first_difference xs (drop at right)) (drop_more left at 0 l) ∙ ap (first_difference (get_or left at 0 ∷ drop (at + 1) left)) (drop_more right at 0 r)
    ∙ by_test (get_or left at 0) (get_or right at 0) (drop (at + 1) left) (drop (at + 1) right) false (grind (arith, nat_tests, e)))
    ∙ ap Some (omega arith)

one_end : (xs ys : List ℕ) → (length xs ≡ 0) ⊎ (length ys ≡ 0) → (length xs ≡ length ys → ⊥) → first_difference xs ys ≡ Some 0
unfolding first_difference
one_end [] [] h other = absurd (other refl)
one_end [] (y ∷ ys) h other = refl
one_end (x ∷ xs) [] h other = refl
one_end (x ∷ xs) (y ∷ ys) (inl h) other = absurd (omega (arith, h))
one_end (x ∷ xs) (y ∷ ys) (inr h) other = absurd (omega (arith, h))

both_end : (xs ys : List ℕ) → length xs ≡ 0 → length ys ≡ 0 → first_difference xs ys ≡ None
unfolding first_difference
both_end [] [] h g = refl
both_end [] (y ∷ ys) h g = absurd (omega (arith, g))
both_end (x ∷ xs) ys h g = absurd (omega (arith, h))

pub ends_together : (left right : List ℕ) (at : ℕ) → at ≤ length left → at ≤ length right → ((length left ≤ at) ⊎ (length right ≤ at)) → length left ≡ length right
    → option_map (λ n. at + n) (first_difference (drop at left) (drop at right)) ≡ None
ends_together left right at l r ends e =
    let a = length-drop at left in
    let b = length-drop at right in
    let all : length left ≡ at = end_of ends in
    ap (option_map (λ n. at + n)) (both_end (drop at left) (drop at right) (omega (arith, a, all)) (omega (arith, b, all, e)))
  where
    end_of : ((length left ≤ at) ⊎ (length right ≤ at)) → length left ≡ at
    end_of (inl h) = omega (arith, l, h)
    end_of (inr h) = omega (arith, r, h, e)

pub ends_apart : (left right : List ℕ) (at : ℕ) → at ≤ length left → at ≤ length right → ((length left ≤ at) ⊎ (length right ≤ at)) → (length left ≡ length right → ⊥)
    → option_map (λ n. at + n) (first_difference (drop at left) (drop at right)) ≡ Some at
ends_apart left right at l r ends e =
    let a = length-drop at left in
    let b = length-drop at right in
    ap (option_map (λ n. at + n)) (one_end (drop at left) (drop at right) (end_of a b ends) (λ f. e (omega (arith, a, b, f, l, r)))) ∙ ap Some (omega arith)
  where
    end_of : length (drop at left) ≡ length left - at → length (drop at right) ≡ length right - at → ((length left ≤ at) ⊎ (length right ≤ at)) → (length (drop at left) ≡ 0) ⊎ (length (drop at right) ≡ 0)
    end_of a b (inl h) = inl (omega (arith, a, h))
    end_of a b (inr h) = inr (omega (arith, b, h))
