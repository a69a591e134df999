-- Lists with one element changed or taken out. An element is found and changed by the same word.
use Rattle.std.specs.Prelude.{ℕ, List, Bool, Option, Some, None, slice_get, slice_set, position, remove}

abbrev pub set_some : {A : Type 0} → Option A → (A → A) → ℕ → List A → List A
set_some None f k xs = xs
set_some (Some x) f k xs = slice_set xs k (f x)

-- the element at a place changed, where there is one
abbrev pub changed_at : {A : Type 0} → (A → A) → ℕ → List A → List A
changed_at f k xs = set_some (slice_get xs k) f k xs

abbrev pub changed_at_some : {A : Type 0} → (A → A) → Option ℕ → List A → List A
changed_at_some f None xs = xs
changed_at_some f (Some k) xs = changed_at f k xs

-- the first element that passes changed
abbrev pub first_changed : {A : Type 0} → (A → Bool) → (A → A) → List A → List A
first_changed test f xs = changed_at_some f (position test xs) xs

abbrev pub removed_at : {A : Type 0} → Option ℕ → List A → List A
removed_at None xs = xs
removed_at (Some k) xs = remove xs k

-- the first element that passes taken out
abbrev pub first_removed : {A : Type 0} → (A → Bool) → List A → List A
first_removed test xs = removed_at (position test xs) xs
