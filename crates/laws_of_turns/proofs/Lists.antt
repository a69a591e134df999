-- A fact of each element stays where a list is cut, joined, changed at a place or put in another order.
use Rattle.std.proofs.Common.{ℕ, zero, suc, ◌+◌, Bool, true, false, if◌then◌else◌, cond, List, [], ◌∷◌, ◌++◌, map, reverse, take, drop, Option, Some, None, sym, subst}
use mathlib.Core.List.{reverse-cons}
use Rattle.std.specs.Prelude.{IfSome, unwrap_or, option_map, find, position, slice_get, slice_set, slice_index_or, remove, insert, flat_map, bytes_eq}
use Rattle.std.specs.List.{enumerate_from}
use Rattle.scratch_values.specs.Named.{item_named}
use Rattle.machine_spec.specs.Lists.{set_some, changed_at, changed_at_some, first_changed, removed_at, first_removed}
use Rattle.laws_of_threads.specs.Lists.{Each}
use Rattle.laws_of_threads.proofs.Numbers.{each_append}

pub if_has : {A : Type 0} (P : A → Type 0) (b : Bool) (x y : A) → P x → P y → P (if b then x else y)
if_has P true x y h g = h
if_has P false x y h g = g

pub unwrap_has : {A : Type 0} (P : A → Type 0) (o : Option A) (d : A) → IfSome o P → P d → P (unwrap_or o d)
unwrap_has P None d h g = g
unwrap_has P (Some x) d h g = h

some_if : {A : Type 0} (P : A → Type 0) (b : Bool) (x : A) (o : Option A) → P x → IfSome o P → IfSome (cond b (Some x) o) P
some_if P true x o h g = h
some_if P false x o h g = g

pub map_has : {A B : Type 0} (P : A → Type 0) (Q : B → Type 0) (f : A → B) (o : Option A) → ((x : A) → P x → Q (f x)) → IfSome o P → IfSome (option_map f o) Q
map_has P Q f None g h = tt
map_has P Q f (Some x) g h = g x h

pub found_has : {A : Type 0} (P : A → Type 0) (test : A → Bool) (xs : List A) → Each P xs → IfSome (find test xs) P
found_has P test [] h = tt
found_has P test (x ∷ xs) h = some_if P (test x) x (find test xs) h.0 (found_has P test xs h.1)

pub got_has : {A : Type 0} (P : A → Type 0) (xs : List A) (k : ℕ) → Each P xs → IfSome (slice_get xs k) P
got_has P [] k h = tt
got_has P (x ∷ xs) zero h = h.0
got_has P (x ∷ xs) (suc k) h = got_has P xs k h.1

pub index_has : {A : Type 0} (P : A → Type 0) (xs : List A) (k : ℕ) (d : A) → Each P xs → P d → P (slice_index_or xs k d)
index_has P [] k d h g = g
index_has P (x ∷ xs) zero d h g = h.0
index_has P (x ∷ xs) (suc k) d h g = index_has P xs k d h.1 g

pub named_has : {A : Type 0} (P : A → Type 0) (name : List ℕ) (xs : List (List ℕ × A)) → Each (λ q. P q.1) xs → IfSome (item_named name xs) P
named_has P name [] h = tt
named_has P name (x ∷ xs) h = some_if P (bytes_eq x.0 name) x.1 (item_named name xs) h.0 (named_has P name xs h.1)

pub each_set : {A : Type 0} (P : A → Type 0) (xs : List A) (k : ℕ) (y : A) → Each P xs → P y → Each P (slice_set xs k y)
each_set P [] k y h g = tt
each_set P (x ∷ xs) zero y h g = (g, h.1)
each_set P (x ∷ xs) (suc k) y h g = (h.0, each_set P xs k y h.1 g)

pub each_take : {A : Type 0} (P : A → Type 0) (n : ℕ) (xs : List A) → Each P xs → Each P (take n xs)
each_take P zero xs h = tt
each_take P (suc n) [] h = tt
each_take P (suc n) (x ∷ xs) h = (h.0, each_take P n xs h.1)

pub each_drop : {A : Type 0} (P : A → Type 0) (n : ℕ) (xs : List A) → Each P xs → Each P (drop n xs)
each_drop P zero xs h = h
each_drop P (suc n) [] h = tt
each_drop P (suc n) (x ∷ xs) h = each_drop P n xs h.1

pub each_remove : {A : Type 0} (P : A → Type 0) (xs : List A) (k : ℕ) → Each P xs → Each P (remove xs k)
each_remove P xs k h = each_append P (take k xs) (drop (suc k) xs) (each_take P k xs h) (each_drop P (suc k) xs h)

pub each_insert : {A : Type 0} (P : A → Type 0) (xs : List A) (k : ℕ) (y : A) → Each P xs → P y → Each P (insert xs k y)
each_insert P xs k y h g = each_append P (take k xs) (y ∷ drop k xs) (each_take P k xs h) (g, each_drop P k xs h)

pub each_last : {A : Type 0} (P : A → Type 0) (xs : List A) (y : A) → Each P xs → P y → Each P (xs ++ y ∷ [])
each_last P xs y h g = each_append P xs (y ∷ []) h (g, tt)

pub each_over : {A B : Type 0} (P : A → Type 0) (Q : B → Type 0) (f : A → B) (xs : List A) → ((x : A) → P x → Q (f x)) → Each P xs → Each Q (map f xs)
each_over P Q f [] g h = tt
each_over P Q f (x ∷ xs) g h = (g x h.0, each_over P Q f xs g h.1)

pub each_reverse : {A : Type 0} (P : A → Type 0) (xs : List A) → Each P xs → Each P (reverse xs)
each_reverse P [] h = tt
each_reverse P (x ∷ xs) h = subst (Each P) (sym (reverse-cons x xs)) (each_append P (reverse xs) (x ∷ []) (each_reverse P xs h.1) (h.0, tt))

pub each_flat_map : {A B : Type 0} (Q : B → Type 0) (f : A → List B) (xs : List A) → ((x : A) → Each Q (f x)) → Each Q (flat_map f xs)
each_flat_map Q f [] g = tt
each_flat_map Q f (x ∷ xs) g = each_append Q (f x) (flat_map f xs) (g x) (each_flat_map Q f xs g)

pub each_numbered : {A : Type 0} (P : A → Type 0) (n : ℕ) (xs : List A) → Each P xs → Each (λ x. P x.1) (enumerate_from n xs)
each_numbered P n [] h = tt
each_numbered P n (x ∷ xs) h = (h.0, each_numbered P (n + 1) xs h.1)

module _ {A : Type 0} (P : A → Type 0) (f : A → A) (kept : (x : A) → P x → P (f x)) where
  set_some_has : (o : Option A) (k : ℕ) (xs : List A) → IfSome o P → Each P xs → Each P (set_some o f k xs)
  set_some_has None k xs g h = h
  set_some_has (Some x) k xs g h = each_set P xs k (f x) h (kept x g)

  pub each_changed_at : (k : ℕ) (xs : List A) → Each P xs → Each P (changed_at f k xs)
  each_changed_at k xs h = set_some_has (slice_get xs k) k xs (got_has P xs k h) h

  changed_some : (o : Option ℕ) (xs : List A) → Each P xs → Each P (changed_at_some f o xs)
  changed_some None xs h = h
  changed_some (Some k) xs h = each_changed_at k xs h

  pub each_first_changed : (test : A → Bool) (xs : List A) → Each P xs → Each P (first_changed test f xs)
  each_first_changed test xs h = changed_some (position test xs) xs h

removed_some : {A : Type 0} (P : A → Type 0) (o : Option ℕ) (xs : List A) → Each P xs → Each P (removed_at o xs)
removed_some P None xs h = h
removed_some P (Some k) xs h = each_remove P xs k h

pub each_first_removed : {A : Type 0} (P : A → Type 0) (test : A → Bool) (xs : List A) → Each P xs → Each P (first_removed test xs)
each_first_removed P test xs h = removed_some P (position test xs) xs h
