-- What the variables, lists and monitors of a run are, between two lines of a script and during a frame.
use Rattle.std.specs.Prelude.{◌≡◌, ◌↔◌, ℕ, ◌<◌, ◌≤◌, List, map, length}
use Rattle.machine_spec.specs.declared.instance.Instance.{Instance}
use Rattle.machine_spec.specs.declared.variables.Shown.{Shown}
use Rattle.machine_spec.specs.declared.variables.Shown.TheVariants.{Variable, List as Items}
use Rattle.machine_spec.specs.declared.variables.Store.{Store}
use Rattle.machine_spec.specs.DataRows.{most_items}
use Rattle.machine_spec.specs.Program.{Program, Records, record_at}
use Rattle.machine_spec.specs.Stores.{Variables, store_at, record_of}
use Rattle.machine_spec.specs.Tasks.{Task}
use Rattle.machine_spec.specs.World.{World}
use Rattle.laws_of_threads.specs.Lists.{Each, Member, Rise}

-- a store has a value for each variable of an instance's target, and items for each list
pub record IsStoreOf (records : Records) (i : Instance) (s : Store) : Type 0 where
  pub values : length s.values ≡ length (record_of i records).variables
  pub lists : length s.lists ≡ length (record_of i records).lists

-- what is shown is a variable or list of the project
abbrev pub IsThere : Records → Shown → Type 0
IsThere records (Variable target index) = index < length (record_at target records).variables
IsThere records (Items target index) = index < length (record_at target records).lists

-- stores stand in the order of their instances' numbers, one for each live instance; lists are short; each monitor of the
-- file is counted, and those that blocks added show what is there
pub record IsLegalStores (p : Program) (is : List Instance) (vs : Variables) : Type 0 where
  pub rising : Rise (map (λ s. s.of) vs.stores)
  pub same : (n : ℕ) → Member n (map (λ s. s.of) vs.stores) ↔ Member n (map (λ i. i.number) is)
  pub stores : Each (λ i. IsStoreOf p.records i (store_at i.number vs.stores)) is
  pub short : Each (λ s. Each (λ items. length items ≤ most_items) s.lists) vs.stores
  pub monitors : length vs.file_monitors ≡ length p.records.monitors
  pub made : Each (λ m. IsThere p.records m.what) vs.made

abbrev pub IsLegalVariables : Program → World Task → Type 0
IsLegalVariables p w = IsLegalStores p w.targets w.variables
