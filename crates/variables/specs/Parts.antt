-- Variables that are made again from their parts.
use Rattle.std.specs.Prelude.{List}
use Rattle.std.specs.List.{All}
use Rattle.machine_spec.specs.declared.variables.Store.{Store}
use Rattle.machine_spec.specs.Stores.{Variables}
use Rattle.variables.specs.declared.parts.VariableParts.{VariableParts}
use Rattle.variables.specs.Distinct.{numbers, IsDistinct}
use Rattle.variables.specs.Kept.{HasShortLists}

-- the variables that hold these parts
abbrev pub variables_of : VariableParts → Variables
variables_of p = record { stores = p.stores; file_monitors = p.file_monitors; made = p.made }

-- each instance has one store, and no list has more items than a list may have
pub record AreStores (stores : List Store) : Type 0 where
  pub distinct : IsDistinct (numbers stores)
  pub short : All HasShortLists stores
