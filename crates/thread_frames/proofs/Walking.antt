-- Each thread of a list is changed in its slot, one after another.
use Rattle.std.proofs.Common.{◌≡◌, ℕ, suc, ◌+◌, ◌<◌, ◌≤◌, List, [], ◌∷◌, ◌++◌, length, map, take, drop, set, Option, Some, None, slice_get, refl, sym, ap, ap₂, ◌∙◌, arith, add-one, append_assoc, length-set, inl, inr}
use Rattle.std.proofs.Math.Seq.{drop-cons}
use Rattle.std.proofs.lemmas.List.{take_more_set, drop-set-lt, take_all, drop_all, append-nil}
use Rattle.std.proofs.lemmas.Option.{slice_get_within, get_or_from_slice_get, slice_get_cases}
use Rattle.machine_spec.specs.declared.threads.Which.TheVariants.{Slot}
use Rattle.machine_spec.specs.Places.{Places, on_place, put_some}

module _ {A : Type 0} (f : ℕ → A → A) where
  -- each element changed by the number of its slot, the first of which is j
  abbrev pub mapped_from : ℕ → List A → List A
  mapped_from j [] = []
  mapped_from j (t ∷ ts) = f j t ∷ mapped_from (suc j) ts

  -- those from slot j on
  pub rest : ℕ → Places A → Places A
  rest j ts = record { list = take j ts.list ++ mapped_from j (drop j ts.list); detached = ts.detached }

  listed_more : (xs : List A) (j : ℕ) (t : A) → slice_get xs j ≡ Some t → take (j + 1) (set xs j (f j t)) ++ mapped_from (j + 1) (drop (j + 1) (set xs j (f j t))) ≡ take j xs ++ mapped_from j (drop j xs)
  listed_more xs j t at =
      let lt : j < length xs = slice_get_within xs j t at in
      let u = f j t in
      let front : take (j + 1) (set xs j u) ≡ take j xs ++ u ∷ [] = take_more_set xs j u lt in
      let back : drop (j + 1) (set xs j u) ≡ drop (j + 1) xs = drop-set-lt (j + 1) xs j u (omega arith) in
      let here : drop j xs ≡ t ∷ drop (suc j) xs = drop-cons xs j t lt ∙ ap (λ x. x ∷ drop (suc j) xs) (get_or_from_slice_get xs j t t at) in
      ap₂ (λ (a b : List A). a ++ mapped_from (j + 1) b) front back
      ∙ append_assoc (take j xs) (u ∷ []) (mapped_from (j + 1) (drop (j + 1) xs))
      ∙ ap (λ (n : ℕ). take j xs ++ u ∷ mapped_from n (drop n xs)) (add-one j)
      ∙ ap (λ (ys : List A). take j xs ++ mapped_from j ys) (sym here)

  -- past the end
  listed_all : (xs : List A) (j : ℕ) → length xs ≤ j → take j xs ++ mapped_from j (drop j xs) ≡ xs
  listed_all xs j le = ap₂ (λ (a b : List A). a ++ mapped_from j b) (take_all j xs le) (drop_all j xs le) ∙ append-nil xs

  is_past : (xs : List A) (j : ℕ) → None ≡ slice_get xs j → length xs ≤ j
  is_past xs j at = elim (slice_get_cases xs j).1 [
    | inl (x, lt, e, g) ↦ cc
    | inr (le, e) ↦ le
  ]

  more_by : (j : ℕ) (ts : Places A) (o : Option A) → o ≡ slice_get ts.list j → rest (j + 1) (put_some o (f j) (Slot j) ts) ≡ rest j ts
  unfolding rest
  more_by j ts None at =
      let le = is_past ts.list j at in
      ap (λ (xs : List A). record { list = xs; detached = ts.detached }) (listed_all ts.list (j + 1) (omega arith) ∙ sym (listed_all ts.list j le))
  more_by j ts (Some t) at = ap (λ (xs : List A). record { list = xs; detached = ts.detached }) (listed_more ts.list j t (sym at))

  -- one slot more
  pub rest-more : (j : ℕ) (ts new : Places A) → new ≡ on_place (f j) (Slot j) ts → rest (j + 1) new ≡ rest j ts
  rest-more j ts new e = ap (rest (j + 1)) e ∙ more_by j ts (slice_get ts.list j) refl

  pub rest-none : (ts : Places A) → rest 0 ts ≡ record { list = mapped_from 0 ts.list; detached = ts.detached }
  unfolding rest
  rest-none ts = refl

  pub rest-all : (j : ℕ) (ts : Places A) → length ts.list ≤ j → rest j ts ≡ ts
  unfolding rest
  rest-all j ts le = ap (λ (xs : List A). record { list = xs; detached = ts.detached }) (listed_all ts.list j le)

  -- a change in a slot leaves as many
  length_by : (j : ℕ) (ts : Places A) (o : Option A) → length (put_some o (f j) (Slot j) ts).list ≡ length ts.list
  length_by j ts None = refl
  length_by j ts (Some t) = length-set ts.list j (f j t)

  pub length-more : (j : ℕ) (ts new : Places A) → new ≡ on_place (f j) (Slot j) ts → length new.list ≡ length ts.list
  length-more j ts new e = ap (λ (x : Places A). length x.list) e ∙ length_by j ts (slice_get ts.list j)

-- a change that asks for no slot
pub mapped_from-map : {A : Type 0} (g : A → A) (j : ℕ) (xs : List A) → mapped_from (λ k. g) j xs ≡ map g xs
mapped_from-map g j [] = refl
mapped_from-map g j (x ∷ xs) = ap (λ ys. g x ∷ ys) (mapped_from-map g (suc j) xs)
