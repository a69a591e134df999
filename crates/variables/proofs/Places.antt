-- The first element that passes a test, and one element changed there.
use Rattle.std.proofs.Common.{◌≡◌, ℕ, ◌+◌, ◌<◌, ◌≤◌, List, [], ◌∷◌, length, map, not, refl, get_or, set, Some, None, Bool, cond, inl, inr, ap, ap₂, ◌∙◌, arith}
use Rattle.std.proofs.lemmas.List.{length-map}
use Rattle.std.specs.Prelude.{nat_lt}
use Rattle.std.specs.List.{position, position_or_len, prefix_len, find, slice_get}
use Rattle.std.proofs.lemmas.List.Quantifiers.{position-Some}
use Rattle.std.proofs.lemmas.List.Sums.{position_or_len_is}
use Rattle.std.proofs.lemmas.List.Folds.{find_at}
use Rattle.std.proofs.lemmas.Option.{slice_get-get_or, slice_get_past}
use Rattle.std.proofs.lemmas.Bool.{cases_Bool}
use Rattle.std.proofs.lemmas.Bool.Decides.{nat_tests}
use Rattle.machine_spec.specs.Lists.{first_changed, changed_at_some, set_some}

pub position_is : {X : Type 0} (p : X → Bool) (xs : List X) (i : ℕ) (d : X) → position p xs ≡ Some i → (position_or_len p xs ≡ i) × (i < length xs)
position_is p xs i d e =
    let at = position-Some p xs i d e in
    (position_or_len_is p xs i d (omega arith) at.2 (λ _. at.1), at.0)

pub position_at : {X : Type 0} (p : X → Bool) (xs : List X) (i : ℕ) → position_or_len p xs ≡ i → i < length xs → position p xs ≡ Some i
position_at p xs i e lt = grind (arith, nat_tests)

-- the element at the first place that passes is the one that is found
pub find_is : {X : Type 0} (p : X → Bool) (xs : List X) (i : ℕ) (d : X) → position p xs ≡ Some i → find p xs ≡ Some (get_or xs i d)
find_is p xs i d e =
    let at = position_is p xs i d e in
    find_at p xs ∙ ap (slice_get xs) at.0 ∙ slice_get-get_or xs i d at.1

past : {X : Type 0} (p : X → Bool) (xs : List X) → position p xs ≡ None → length xs ≤ position_or_len p xs
past p xs e = elim (cases_Bool (nat_lt (position_or_len p xs) (length xs))) [
  | inl t ↦ absurd (let g = rw t at e in cc)
  | inr f ↦ grind (arith, nat_tests)
]

-- where no place passes, nothing is found
pub find_none : {X : Type 0} (p : X → Bool) (xs : List X) → position p xs ≡ None → find p xs ≡ None
find_none p xs e = find_at p xs ∙ slice_get_past xs (position_or_len p xs) (past p xs e)

-- the first element that passes is changed at its place
pub first_changed_is : {X : Type 0} (p : X → Bool) (f : X → X) (xs : List X) (i : ℕ) (d : X) → position p xs ≡ Some i → first_changed p f xs ≡ set xs i (f (get_or xs i d))
first_changed_is p f xs i d e =
    let at = position_is p xs i d e in
    ap (λ o. changed_at_some f o xs) e ∙ ap (λ o. set_some o f i xs) (slice_get-get_or xs i d at.1)

prefix_len-map : {X Y : Type 0} (p : Y → Bool) (f : X → Y) (xs : List X) → prefix_len p (map f xs) ≡ prefix_len (λ x. p (f x)) xs
prefix_len-map p f [] = refl
prefix_len-map p f (x ∷ xs) = ap (λ n. cond (p (f x)) (1 + n) 0) (prefix_len-map p f xs)

-- the place among what is seen of elements is that among the elements
pub position-map : {X Y : Type 0} (p : Y → Bool) (f : X → Y) (xs : List X) → position p (map f xs) ≡ position (λ x. p (f x)) xs
position-map p f xs =
    ap₂ (λ k l. cond (nat_lt k l) (Some k) None) (prefix_len-map (λ y. not (p y)) f xs) (length-map xs f)
