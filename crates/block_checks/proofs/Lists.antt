-- Elements of lists that are made from others.
use Rattle.std.proofs.Common.{◌≡◌, ℕ, zero, suc, ◌<◌, ◌≤◌, inl, inr, List, [], ◌∷◌, ◌++◌, length, get_or, map, take, drop, Option, None, Some, refl, ap, ◌∙◌, sym, subst, arith}
use Rattle.std.specs.Prelude.{slice_get, flat_map, option_map}
use Rattle.std.specs.List.{Contains, AllZip}
use Rattle.std.proofs.lemmas.List.{take-append-le, take_all}
use Rattle.std.proofs.lemmas.List.Elements.{Contains-append_left, Contains-append_right, Contains-append_cases, Contains-push, Contains-push_cases}
use Rattle.std.proofs.lemmas.Option.{slice_get-map, slice_get_within, slice_get_read, get_or_from_slice_get, same_Some}

-- an element at a place is contained, and one that is contained stands at a place
pub contains_at : {X : Type 0} (xs : List X) (k : ℕ) (x : X) → slice_get xs k ≡ Some x → Contains xs x
contains_at xs k x h = (k, slice_get_within xs k x h, get_or_from_slice_get xs k x x h)

pub place_of : {X : Type 0} (xs : List X) (x : X) → Contains xs x → (k : ℕ) × (slice_get xs k ≡ Some x)
place_of xs x c = (c.0, slice_get_read xs (length xs) c.0 x refl c.1 (sym c.2))

pub in_none : {X : Type 0} (x : X) → Contains [] x → ⊥
in_none x c = let lt = c.1 in absurd (omega arith)

pub in_one : {X : Type 0} (y x : X) → Contains (y ∷ []) x → y ≡ x
in_one y x c = elim (Contains-push_cases [] y x c) [ inl p ↦ absurd (in_none x p) | inr p ↦ p ]

pub here : {X : Type 0} (x : X) (xs : List X) → Contains (x ∷ xs) x
here x xs = Contains-append_left (x ∷ []) xs x (Contains-push [] x)

pub later : {X : Type 0} (y : X) (xs : List X) (x : X) → Contains xs x → Contains (y ∷ xs) x
later y xs x c = Contains-append_right (y ∷ []) xs x c

option_map_was : {A B : Type 0} (f : A → B) (o : Option A) (y : B) → option_map f o ≡ Some y → (x : A) × (o ≡ Some x) × (f x ≡ y)
option_map_was f None y h = absurd (let e = h in cc)
option_map_was f (Some x) y h = (x, refl, same_Some (f x) y h)

pub contains_map : {A B : Type 0} (f : A → B) (xs : List A) (x : A) → Contains xs x → Contains (map f xs) (f x)
contains_map f xs x c = let p = place_of xs x c in contains_at (map f xs) p.0 (f x) (slice_get-map f xs p.0 ∙ ap (option_map f) p.1)

pub contains_from_map : {A B : Type 0} (f : A → B) (xs : List A) (y : B) → Contains (map f xs) y → (x : A) × Contains xs x × (f x ≡ y)
contains_from_map f xs y c =
    let p = place_of (map f xs) y c in
    let q = option_map_was f (slice_get xs p.0) y (sym (slice_get-map f xs p.0) ∙ p.1) in
    (q.0, contains_at xs p.0 q.0 q.1, q.2)

pub contains_from_flat_map : {A B : Type 0} (f : A → List B) (xs : List A) (y : B) → Contains (flat_map f xs) y → (x : A) × Contains xs x × Contains (f x) y
contains_from_flat_map f [] y c = absurd (in_none y c)
contains_from_flat_map f (z ∷ xs) y c = elim (Contains-append_cases (f z) (flat_map f xs) y c) [
  | inl p ↦ (z, here z xs, p)
  | inr p ↦ (let r = contains_from_flat_map f xs y p in (r.0, later z xs r.0 r.1, r.2))
]

-- two lists that go together, item by item

pub zip_push : {A B : Type 0} (R : A → B → Type 0) (xs : List A) (ys : List B) (x : A) (y : B) → AllZip R xs ys → R x y → AllZip R (xs ++ x ∷ []) (ys ++ y ∷ [])
zip_push R [] [] x y z r = (r, tt)
zip_push R [] (b ∷ ys) x y z r = absurd z
zip_push R (a ∷ xs) [] x y z r = absurd z
zip_push R (a ∷ xs) (b ∷ ys) x y z r = (z.0, zip_push R xs ys x y z.1 r)

pub zip_length : {A B : Type 0} (R : A → B → Type 0) (xs : List A) (ys : List B) → AllZip R xs ys → length xs ≡ length ys
zip_length R [] [] z = refl
zip_length R [] (b ∷ ys) z = absurd z
zip_length R (a ∷ xs) [] z = absurd z
zip_length R (a ∷ xs) (b ∷ ys) z = ap suc (zip_length R xs ys z.1)

pub zip_at : {A B : Type 0} (R : A → B → Type 0) (xs : List A) (ys : List B) (k : ℕ) (x : A) (y : B) → AllZip R xs ys → slice_get xs k ≡ Some x → slice_get ys k ≡ Some y → R x y
zip_at R [] ys k x y z g h = absurd (let e = g in cc)
zip_at R (a ∷ xs) [] k x y z g h = absurd (let e = h in cc)
zip_at R (a ∷ xs) (b ∷ ys) zero x y z g h = subst (R x) (same_Some b y h) (subst (λ w. R w b) (same_Some a x g) z.0)
zip_at R (a ∷ xs) (b ∷ ys) (suc k) x y z g h = zip_at R xs ys k x y z.1 g h

-- an element, as it was read
pub read : {X : Type 0} (xs : List X) (i : ℕ) (x : X) → i < length xs → x ≡ get_or xs i x → slice_get xs i ≡ Some x
read xs i x h e = slice_get_read xs (length xs) i x refl h e

-- a vector after a slice of all its elements was written
pub written : {X : Type 0} (xs ys : List X) (n : ℕ) → n ≡ length ys → length xs ≡ length ys → take n (xs ++ drop (length xs) ys) ≡ xs
written xs ys n e s =
    let le : n ≤ length xs = omega arith in
    let ge : length xs ≤ n = omega arith in
    take-append-le n xs (drop (length xs) ys) le ∙ take_all n xs ge
