-- Lists in which each element is shown as another.
use Rattle.std.proofs.Common.{◌≡◌, ℕ, zero, suc, ◌+◌, Bool, true, false, cond, List, [], ◌∷◌, map, position, Option, Some, option_map, slice_get, refl, sym, ap, ◌∙◌}
use Rattle.std.specs.Prelude.{slice_set, find, ◌||◌}
use Rattle.std.specs.List.{list_any, position_from}
use Rattle.std.proofs.lemmas.Iterator.Adapters.{position_from-zero}
use Rattle.machine_spec.specs.declared.threads.Which.{Which}
use Rattle.machine_spec.specs.declared.threads.Which.TheVariants.{Slot, Detached}
use Rattle.machine_spec.specs.Places.{Places, at_place, put, shown_by}

pub some_same : {A : Type 0} (a b : A) → Some a ≡ Some b → a ≡ b
some_same a b e = cc

-- an element put in its own place
set_same : {A : Type 0} (xs : List A) (i : ℕ) (a : A) → slice_get xs i ≡ Some a → slice_set xs i a ≡ xs
set_same [] i a at = refl
set_same (x ∷ xs) zero a at = ap (λ y. y ∷ xs) (sym (some_same x a at))
set_same (x ∷ xs) (suc i) a at = ap (λ ys. x ∷ ys) (set_same xs i a at)

pub put_same : {A : Type 0} (which : Which) (t : A) (ts : Places A) → at_place which ts ≡ Some t → put which t ts ≡ ts
put_same (Slot i) t ts at = ap (λ xs. record { list = xs; detached = ts.detached }) (set_same ts.list i t at)
put_same Detached t ts at = ap (λ o. record { list = ts.list; detached = o }) (sym at)

module _ {A B : Type 0} (f : A → B) where
  pub map-at : (xs : List A) (i : ℕ) → slice_get (map f xs) i ≡ option_map f (slice_get xs i)
  map-at [] i = refl
  map-at (x ∷ xs) zero = refl
  map-at (x ∷ xs) (suc i) = map-at xs i

  pub map-set : (xs : List A) (i : ℕ) (a : A) → map f (slice_set xs i a) ≡ slice_set (map f xs) i (f a)
  map-set [] i a = refl
  map-set (x ∷ xs) zero a = refl
  map-set (x ∷ xs) (suc i) a = ap (λ ys. f x ∷ ys) (map-set xs i a)

  -- an element that is shown the same in its place
  pub map-same : (xs : List A) (i : ℕ) (a b : A) → slice_get xs i ≡ Some a → f b ≡ f a → map f (slice_set xs i b) ≡ map f xs
  map-same xs i a b at same =
      map-set xs i b ∙ ap (slice_set (map f xs) i) same ∙ set_same (map f xs) i (f a) (map-at xs i ∙ ap (option_map f) at)

  pub at_place-shown : (which : Which) (ts : Places A) → at_place which (shown_by f ts) ≡ option_map f (at_place which ts)
  at_place-shown (Slot i) ts = map-at ts.list i
  at_place-shown Detached ts = refl

  position_from-map : (p : B → Bool) (i : ℕ) (xs : List A) → position_from p i (map f xs) ≡ position_from (λ x. p (f x)) i xs
  position_from-map p i [] = refl
  position_from-map p i (x ∷ xs) = ap (cond (p (f x)) (Some i)) (position_from-map p (i + 1) xs)

  pub position-map : (p : B → Bool) (xs : List A) → position p (map f xs) ≡ position (λ x. p (f x)) xs
  position-map p xs = position_from-zero p (map f xs) ∙ position_from-map p 0 xs ∙ sym (position_from-zero (λ x. p (f x)) xs)

  find_by : (b : Bool) (x : A) (o : Option B) (q : Option A) → o ≡ option_map f q → cond b (Some (f x)) o ≡ option_map f (cond b (Some x) q)
  find_by true x o q e = refl
  find_by false x o q e = e

  pub find-map : (p : B → Bool) (xs : List A) → find p (map f xs) ≡ option_map f (find (λ x. p (f x)) xs)
  find-map p [] = refl
  find-map p (x ∷ xs) = find_by (p (f x)) x (find p (map f xs)) (find (λ y. p (f y)) xs) (find-map p xs)

  pub any-map : (p : B → Bool) (xs : List A) → list_any p (map f xs) ≡ list_any (λ x. p (f x)) xs
  any-map p [] = refl
  any-map p (x ∷ xs) = ap (λ b. p (f x) || b) (any-map p xs)
