-- The variables and lists that are held, and what stays of them where some are changed.
use Rattle.std.specs.Prelude.{◌≡◌, ℕ, ◌<◌, ◌==◌, List, [], length, slice_get, unwrap_or, find, None, IsSome}
use Rattle.scratch_values.specs.Casts.{zero_number}
use Rattle.scratch_values.specs.declared.value.Value.{Value}
use Rattle.scratch_values.specs.declared.value.Value.TheVariants.{Number}
use Rattle.machine_spec.specs.declared.variables.Store.{Store}
use Rattle.machine_spec.specs.Stores.{Variables, store_at}

abbrev pub value_at : ℕ → Store → Value
value_at index s = unwrap_or (slice_get s.values index) (Number zero_number)

abbrev pub items_at : ℕ → Store → List Value
items_at index s = unwrap_or (slice_get s.lists index) []

-- an instance has a store, a variable of this number, and a list of this number
abbrev pub HasStore : ℕ → Variables → Type 0
HasStore of vs = IsSome (find (λ s. s.of == of) vs.stores)

abbrev pub HasNoStore : ℕ → Variables → Type 0
HasNoStore of vs = find (λ s. s.of == of) vs.stores ≡ None

abbrev pub HasValue : (of index : ℕ) → Variables → Type 0
HasValue of index vs = index < length (store_at of vs.stores).values

abbrev pub HasItems : (of index : ℕ) → Variables → Type 0
HasItems of index vs = index < length (store_at of vs.stores).lists

-- each instance has a store where it had one, and as many variables and lists as before
pub record HasSameShape (old new : Variables) : Type 0 where
  pub stores : (n : ℕ) → HasStore n old → HasStore n new
  pub values : (n : ℕ) → length (store_at n new.stores).values ≡ length (store_at n old.stores).values
  pub lists : (n : ℕ) → length (store_at n new.stores).lists ≡ length (store_at n old.stores).lists
