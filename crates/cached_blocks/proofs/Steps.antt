-- One more item of a list that is gone through.
use Rattle.std.proofs.Common.{◌≡◌, ℕ, ◌+◌, ◌<◌, List, [], ◌∷◌, ◌++◌, length, drop, map, get_or, Option, None, Some, refl, sym, ap, ◌∙◌, append_assoc}
use Rattle.std.specs.Prelude.{option_map, option_to_list}
use Rattle.std.specs.List.{filter_map, cons_option}
use Rattle.std.proofs.lemmas.List.{drop_more, append-nil}

module _ {X : Type 0} where
  pub left : (xs : List X) (i : ℕ) (x : X) → i < length xs → x ≡ get_or xs i x → drop i xs ≡ x ∷ drop (i + 1) xs
  left xs i x lt e = drop_more xs i x lt ∙ ap (λ y. y ∷ drop (i + 1) xs) (sym e)

module _ {Y Z : Type 0} (w : Y → Z) where
  kept : (done rest : List Z) (o : Option Y) (tail : List Y) → rest ≡ map w tail → (done ++ option_to_list (option_map w o)) ++ rest ≡ done ++ map w (cons_option o tail)
  kept done rest None tail e = ap (λ d. d ++ rest) (append-nil done) ∙ ap (λ r. done ++ r) e
  kept done rest (Some y) tail e = append_assoc done (w y ∷ []) rest ∙ ap (λ r. done ++ w y ∷ r) e

  pub mapped-more : {X : Type 0} → (f : X → Option Y) (done new : List Z) (xs : List X) (i : ℕ) (x : X) (o : Option Z) (whole : List Z)
      → i < length xs → x ≡ get_or xs i x → o ≡ option_map w (f x) → new ≡ done ++ option_to_list o
      → done ++ map w (filter_map f (drop i xs)) ≡ whole → new ++ map w (filter_map f (drop (i + 1) xs)) ≡ whole
  mapped-more f done new xs i x o whole lt e is grown so =
      ap (λ d. d ++ map w (filter_map f (drop (i + 1) xs))) (grown ∙ ap (λ p. done ++ option_to_list p) is)
      ∙ kept done (map w (filter_map f (drop (i + 1) xs))) (f x) (filter_map f (drop (i + 1) xs)) refl
      ∙ ap (λ ys. done ++ map w (filter_map f ys)) (sym (left xs i x lt e))
      ∙ so
