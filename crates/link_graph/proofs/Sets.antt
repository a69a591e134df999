-- The elements of a list after one is written.
use Rattle.std.proofs.Common.{◌≡◌, ℕ, zero, suc, ◌+◌, ◌<◌, ◌⊎◌, inl, inr, Bool, true, false, cond, List, [], ◌∷◌, ◌++◌, length, get_or, set, Some, refl, ap, ◌∙◌, sym, arith}
use Rattle.std.specs.Prelude.{slice_get, count_by}
use Rattle.std.specs.List.{Contains}
use Rattle.std.proofs.lemmas.Bool.{cases_eq}
use Rattle.std.proofs.lemmas.List.Sums.{sum_by-set}
use Rattle.std.proofs.lemmas.Option.{get_or_from_slice_get, slice_get_within, slice_get_read}

pub slice_get-set_same : {X : Type 0} (xs : List X) (i : ℕ) (y : X) → i < length xs → slice_get (set xs i y) i ≡ Some y
slice_get-set_same [] i y h = absurd (omega arith)
slice_get-set_same (x ∷ xs) zero y h = refl
slice_get-set_same (x ∷ xs) (suc i) y h = slice_get-set_same xs i y (omega arith)

pub slice_get-set_other : {X : Type 0} (xs : List X) (i j : ℕ) (y : X) → (j ≡ i → ⊥) → slice_get (set xs i y) j ≡ slice_get xs j
slice_get-set_other [] i j y h = refl
slice_get-set_other (x ∷ xs) zero zero y h = absurd (h refl)
slice_get-set_other (x ∷ xs) zero (suc j) y h = refl
slice_get-set_other (x ∷ xs) (suc i) zero y h = refl
slice_get-set_other (x ∷ xs) (suc i) (suc j) y h = slice_get-set_other xs i j y (λ e. h (ap suc e))

-- what an element is after a write: the one that was written, or what it was
pub was : {X : Type 0} (xs : List X) (i j : ℕ) (y x : X) → slice_get (set xs i y) j ≡ Some x → i < length xs → ((j ≡ i) × (y ≡ x)) ⊎ ((j ≡ i → ⊥) × (slice_get xs j ≡ Some x))
was xs i j y x e h =
    elim (cases_eq j i) [ inl s ↦ inl (s, let r = slice_get-set_same xs i y h in cc) | inr n ↦ inr (n, sym (slice_get-set_other xs i j y n) ∙ e) ]

-- what an element becomes, which was another than the one at the place
pub stays : {X : Type 0} (xs : List X) (i j : ℕ) (y x z : X) → slice_get xs i ≡ Some z → (x ≡ z → ⊥) → slice_get xs j ≡ Some x → slice_get (set xs i y) j ≡ Some x
stays xs i j y x z e n h = slice_get-set_other xs i j y (λ (s : j ≡ i). n (let r : x ≡ z = cc in r)) ∙ h

-- a count grows by one where an element comes to pass
pub count_by-set_one : {X : Type 0} (p : X → Bool) (xs : List X) (i : ℕ) (y z : X) → slice_get xs i ≡ Some z → p z ≡ false → p y ≡ true → count_by p (set xs i y) ≡ count_by p xs + 1
count_by-set_one p xs i y z e f t =
    let h = sum_by-set (λ x. cond (p x) 1 0) xs i y z (slice_get_within xs i z e) in
    let a : ◌≡◌ {A = ℕ} (cond (p (get_or xs i z)) 1 0) 0 = ap (λ x. cond {A = ℕ} (p x) 1 0) (get_or_from_slice_get xs i z z e) ∙ ap (λ b. cond {A = ℕ} b 1 0) f in
    let b : ◌≡◌ {A = ℕ} (cond (p y) 1 0) 1 = ap (λ b. cond {A = ℕ} b 1 0) t in
    omega (arith, h, a, b)

-- a count stays where an element that does not pass becomes another
pub count_by-set_none : {X : Type 0} (p : X → Bool) (xs : List X) (i : ℕ) (y z : X) → slice_get xs i ≡ Some z → p z ≡ false → p y ≡ false → count_by p (set xs i y) ≡ count_by p xs
count_by-set_none p xs i y z e f t =
    let h = sum_by-set (λ x. cond (p x) 1 0) xs i y z (slice_get_within xs i z e) in
    let a : ◌≡◌ {A = ℕ} (cond (p (get_or xs i z)) 1 0) 0 = ap (λ x. cond {A = ℕ} (p x) 1 0) (get_or_from_slice_get xs i z z e) ∙ ap (λ b. cond {A = ℕ} b 1 0) f in
    let b : ◌≡◌ {A = ℕ} (cond (p y) 1 0) 0 = ap (λ b. cond {A = ℕ} b 1 0) t in
    omega (arith, h, a, b)

pub slice_get-push_last : {X : Type 0} (xs : List X) (y : X) → slice_get (xs ++ y ∷ []) (length xs) ≡ Some y
slice_get-push_last [] y = refl
slice_get-push_last (x ∷ xs) y = slice_get-push_last xs y

pub slice_get-push_old : {X : Type 0} (xs : List X) (y : X) (i : ℕ) (x : X) → slice_get xs i ≡ Some x → slice_get (xs ++ y ∷ []) i ≡ Some x
slice_get-push_old [] y i x h = absurd (let e = h in cc)
slice_get-push_old (z ∷ xs) y zero x h = h
slice_get-push_old (z ∷ xs) y (suc i) x h = slice_get-push_old xs y i x h

-- what an element was before a push, or it is the one that was pushed
pub push_was : {X : Type 0} (xs : List X) (y : X) (i : ℕ) (x : X) → slice_get (xs ++ y ∷ []) i ≡ Some x → (slice_get xs i ≡ Some x) ⊎ ((i ≡ length xs) × (y ≡ x))
push_was [] y zero x h = inr (refl, cc)
push_was [] y (suc i) x h = absurd (let e = h in cc)
push_was (z ∷ xs) y zero x h = inl h
push_was (z ∷ xs) y (suc i) x h = elim (push_was xs y i x h) [ inl p ↦ inl p | inr p ↦ inr (ap suc p.0, p.1) ]

-- an element, as it was read
pub read : {X : Type 0} (xs : List X) (i : ℕ) (x y : X) → i < length xs → x ≡ get_or xs i x → x ≡ y → slice_get xs i ≡ Some y
read xs i x y h e s = slice_get_read xs (length xs) i x refl h e ∙ ap Some s

-- an element at a place is contained, and one that is contained stands at a place
pub contains_at : {X : Type 0} (xs : List X) (k : ℕ) (x : X) → slice_get xs k ≡ Some x → Contains xs x
contains_at xs k x h = (k, slice_get_within xs k x h, get_or_from_slice_get xs k x x h)

pub place_of : {X : Type 0} (xs : List X) (x : X) → Contains xs x → (k : ℕ) × (slice_get xs k ≡ Some x)
place_of xs x c = (c.0, slice_get_read xs (length xs) c.0 x refl c.1 (sym c.2))
