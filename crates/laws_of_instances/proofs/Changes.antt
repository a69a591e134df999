-- What stays true of each element of a list, of its first one and of its length, where the list is changed.
use Rattle.std.proofs.Common.{◌≡◌, ℕ, zero, suc, ◌≤◌, Bool, true, false, List, [], ◌∷◌, map, filter, take, drop, length, Option, Some, None, refl, ap, ◌∙◌, subst, cond, arith}
use Rattle.std.specs.Prelude.{slice_get, slice_set, insert, remove, find, position, nat_lt, IsSomeAnd}
use Rattle.std.specs.List.{position_or_len}
use Rattle.std.proofs.lemmas.List.Folds.{find_at}
use Rattle.std.proofs.Math.ListN.{length-set}
use Rattle.machine_spec.specs.Lists.{set_some, changed_at_some, first_changed, removed_at, first_removed}
use Rattle.laws_of_threads.specs.Lists.{Each}
use Rattle.laws_of_threads.proofs.Numbers.{each_append}

-- the first element has a fact
abbrev pub Heads : {A : Type 0} → (A → Type 0) → List A → Type 0
Heads P xs = IsSomeAnd (slice_get xs 0) P

module _ {A : Type 0} (P : A → Type 0) where
  pub each_get : (xs : List A) (k : ℕ) (x : A) → slice_get xs k ≡ Some x → Each P xs → P x
  each_get [] k x e h = absurd (cc e)
  each_get (y ∷ ys) zero x e h = let s : y ≡ x = cc e in subst P s h.0
  each_get (y ∷ ys) (suc k) x e h = each_get ys k x e h.1

  found_by : (test : A → Bool) (c : Bool) (y x : A) (o : Option A) → cond c (Some y) o ≡ Some x → P y → (o ≡ Some x → P x) → P x
  found_by test true y x o e h g = let s : y ≡ x = cc e in subst P s h
  found_by test false y x o e h g = g e

  pub each_found : (test : A → Bool) (xs : List A) (x : A) → find test xs ≡ Some x → Each P xs → P x
  each_found test [] x e h = absurd (cc e)
  each_found test (y ∷ ys) x e h = found_by test (test y) y x (find test ys) e h.0 (λ f. each_found test ys x f h.1)

  pub each_set : (xs : List A) (k : ℕ) (y : A) → P y → Each P xs → Each P (slice_set xs k y)
  each_set [] k y g h = h
  each_set (x ∷ xs) zero y g h = (g, h.1)
  each_set (x ∷ xs) (suc k) y g h = (h.0, each_set xs k y g h.1)

  each_take : (xs : List A) (k : ℕ) → Each P xs → Each P (take k xs)
  each_take [] zero h = tt
  each_take [] (suc k) h = tt
  each_take (x ∷ xs) zero h = tt
  each_take (x ∷ xs) (suc k) h = (h.0, each_take xs k h.1)

  each_drop : (xs : List A) (k : ℕ) → Each P xs → Each P (drop k xs)
  each_drop xs zero h = h
  each_drop [] (suc k) h = tt
  each_drop (x ∷ xs) (suc k) h = each_drop xs k h.1

  pub each_remove : (xs : List A) (k : ℕ) → Each P xs → Each P (remove xs k)
  each_remove xs k h = each_append P (take k xs) (drop (suc k) xs) (each_take xs k h) (each_drop xs (suc k) h)

  pub each_insert : (xs : List A) (k : ℕ) (y : A) → P y → Each P xs → Each P (insert xs k y)
  each_insert xs k y g h = each_append P (take k xs) (y ∷ drop k xs) (each_take xs k h) (g, each_drop xs k h)

  removed_by : (xs : List A) (o : Option ℕ) → Each P xs → Each P (removed_at o xs)
  removed_by xs None h = h
  removed_by xs (Some k) h = each_remove xs k h

  pub each_removed : (test : A → Bool) (xs : List A) → Each P xs → Each P (first_removed test xs)
  each_removed test xs h = removed_by xs (position test xs) h

-- the first element that passes changed
module _ {A : Type 0} (P : A → Type 0) (f : A → A) (test : A → Bool) (xs : List A) (changes : (x : A) → find test xs ≡ Some x → P x → P (f x)) where
  changed_some : (k : ℕ) (o : Option A) → slice_get xs k ≡ o → find test xs ≡ slice_get xs k → Each P xs → Each P (set_some o f k xs)
  changed_some k None e g h = h
  changed_some k (Some x) e g h = each_set P xs k (f x) (changes x (g ∙ e) (each_get P xs k x e h)) h

  changed_by : (c : Bool) → Each P xs → Each P (changed_at_some f (cond c (Some (position_or_len test xs)) None) xs)
  changed_by true h = changed_some (position_or_len test xs) (slice_get xs (position_or_len test xs)) refl (find_at test xs) h
  changed_by false h = h

  pub each_changed : Each P xs → Each P (first_changed test f xs)
  each_changed h = changed_by (nat_lt (position_or_len test xs) (length xs)) h

-- the first element, and the length
module _ {A : Type 0} (P : A → Type 0) (f : A → A) (same : (x : A) → P x → P (f x)) where
  head_set : (xs : List A) (k : ℕ) (x : A) → slice_get xs k ≡ Some x → Heads P xs → Heads P (slice_set xs k (f x))
  head_set [] k x e h = h
  head_set (y ∷ ys) zero x e h = let s : y ≡ x = cc e in same x (subst P s h)
  head_set (y ∷ ys) (suc k) x e h = h

  head_some : (xs : List A) (k : ℕ) (o : Option A) → slice_get xs k ≡ o → Heads P xs → Heads P (set_some o f k xs)
  head_some xs k None e h = h
  head_some xs k (Some x) e h = head_set xs k x e h

  head_by : (xs : List A) (o : Option ℕ) → Heads P xs → Heads P (changed_at_some f o xs)
  head_by xs None h = h
  head_by xs (Some k) h = head_some xs k (slice_get xs k) refl h

  pub head_changed : (test : A → Bool) (xs : List A) → Heads P xs → Heads P (first_changed test f xs)
  head_changed test xs h = head_by xs (position test xs) h

  pub head_map : (xs : List A) → Heads P xs → Heads P (map f xs)
  head_map [] h = h
  head_map (x ∷ xs) h = same x h

module _ {A : Type 0} (f : A → A) where
  length_some : (xs : List A) (k : ℕ) (o : Option A) → length (set_some o f k xs) ≡ length xs
  length_some xs k None = refl
  length_some xs k (Some x) = length-set xs k (f x)

  length_by : (xs : List A) (o : Option ℕ) → length (changed_at_some f o xs) ≡ length xs
  length_by xs None = refl
  length_by xs (Some k) = length_some xs k (slice_get xs k)

  pub length_changed : (test : A → Bool) (xs : List A) → length (first_changed test f xs) ≡ length xs
  length_changed test xs = length_by xs (position test xs)

  pub length_map : (xs : List A) → length (map f xs) ≡ length xs
  length_map [] = refl
  length_map (x ∷ xs) = ap suc (length_map xs)

  pub each_mapped : (P Q : A → Type 0) (xs : List A) → ((x : A) → P x → Q (f x)) → Each P xs → Each Q (map f xs)
  each_mapped P Q [] g h = tt
  each_mapped P Q (x ∷ xs) g h = (g x h.0, each_mapped P Q xs g h.1)

filtered_by : {A : Type 0} (c : Bool) (x : A) (n : ℕ) (ys : List A) → length ys ≤ n → length (cond c (x ∷ ys) ys) ≤ suc n
filtered_by true x n ys h = omega arith
filtered_by false x n ys h = omega arith

pub length_filter : {A : Type 0} (test : A → Bool) (xs : List A) → length (filter test xs) ≤ length xs
length_filter test [] = omega arith
length_filter test (x ∷ xs) = filtered_by (test x) x (length xs) (filter test xs) (length_filter test xs)
