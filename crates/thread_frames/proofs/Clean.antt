-- Threads of which none is done, and none is detached.
use Rattle.std.proofs.Common.{◌≡◌, ◌≤◌, Bool, true, false, List, [], ◌∷◌, length, refl, ap, arith, inl, inr}
use Rattle.std.specs.Prelude.{filter, not}
use Rattle.std.specs.List.{list_any}
use Rattle.std.proofs.lemmas.Bool.{cases_Bool}

module _ {X : Type 0} (p : X → Bool) where
  shorter : (xs : List X) → length (filter (λ x. not (p x)) xs) ≤ length xs
  shorter [] = omega arith
  shorter (x ∷ xs) = elim (cases_Bool (p x)) [
    | inl t ↦ rw t (omega (arith, shorter xs))
    | inr f ↦ rw f (omega (arith, shorter xs))
  ]

  -- where none passes, a filter takes nothing out
  pub none_out : (xs : List X) → list_any p xs ≡ false → filter (λ x. not (p x)) xs ≡ xs
  none_out [] none = refl
  none_out (x ∷ xs) none = elim (cases_Bool (p x)) [
    | inl t ↦ let passes : true ≡ false = rw t at none in cc
    | inr f ↦ rw f (ap (λ ys. x ∷ ys) (none_out xs (rw f at none)))
  ]
