-- What is true of the fields that keep the variables and lists of a run, and what a change of one store leaves; but for
-- short lists private functions alone cite it.
use Rattle.std.specs.Prelude.{◌≡◌, ◌≤◌, List, [], length}
use Rattle.std.specs.List.{All}
use Rattle.scratch_values.specs.Casts.{zero_number}
use Rattle.scratch_values.specs.declared.value.Value.{Value}
use Rattle.scratch_values.specs.declared.value.Value.TheVariants.{Number}
use Rattle.machine_spec.specs.declared.variables.Store.{Store}
use Rattle.machine_spec.specs.DataRows.{most_items}
use Rattle.variables.specs.Distinct.{numbers, IsDistinct}

-- a list has no more items than a list may have, and no list of a store has more
abbrev pub IsShort : List Value → Type 0
IsShort items = length items ≤ most_items

abbrev pub HasShortLists : Store → Type 0
HasShortLists s = All IsShort s.lists

-- each instance has one store, no list is too long, and what is read where nothing is held is 0 and no items
pub record IsKept (stores : List Store) (zero : Value) (nothing : List Value) : Type 0 where
  pub distinct : IsDistinct (numbers stores)
  pub short : All HasShortLists stores
  pub zero_is : zero ≡ Number zero_number
  pub nothing_is : nothing ≡ []

-- a store that is changed is of the same instance, with as many variables and lists, none of them too long
pub record IsAlike (old new : Store) : Type 0 where
  pub of : new.of ≡ old.of
  pub values : length new.values ≡ length old.values
  pub lists : length new.lists ≡ length old.lists
  pub short : HasShortLists old → HasShortLists new
