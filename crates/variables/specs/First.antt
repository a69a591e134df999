-- The variables, lists and monitors with which a run begins.
use Rattle.std.specs.Prelude.{List, [], map}
use Rattle.std.specs.List.{enumerate_from}
use Rattle.machine_spec.specs.declared.records.TargetRecord.{TargetRecord}
use Rattle.machine_spec.specs.declared.variables.Store.{Store}
use Rattle.machine_spec.specs.Program.{Records}
use Rattle.machine_spec.specs.Stores.{Variables}
use Rattle.machine_spec.specs.First.{store}

abbrev pub stores_of : List TargetRecord → List Store
stores_of targets = map (λ x. store x.0 x.1) (enumerate_from 0 targets)

-- the stores of the originals, the monitors as the file shows them, and none added
abbrev pub first_variables : Records → Variables
first_variables records = record { stores = stores_of records.targets; file_monitors = map (λ m. m.visible) records.monitors; made = [] }
