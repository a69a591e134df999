-- The names of a target, as they are looked up.
use Rattle.std.specs.Prelude.{◌≡◌, ℕ, length}
use Rattle.scratch_values.specs.declared.names.VarName.{VarName}
use Rattle.machine_spec.specs.declared.records.TargetRecord.{TargetRecord}
use Rattle.project_spec.specs.Resolving.{Sort, OfVariable, OfList, names_of, with_added}
use Rattle.name_resolving.specs.declared.sort.Sort as code
use Rattle.name_resolving.specs.declared.sort.Sort.TheVariants as code_sort
use Rattle.name_resolving.specs.declared.index.Index.{Index}
use Rattle.name_resolving.specs.declared.directory.Directory.{Directory}
use Rattle.name_resolving.specs.Index.{IsIndex}

abbrev pub sort_in : code.Sort → Sort
sort_in code_sort.Variable = OfVariable
sort_in code_sort.List = OfList

abbrev pub index_of : Sort → Directory → Index
index_of OfVariable directory = directory.variables
index_of OfList directory = directory.lists

-- the directory of a target
pub record IsDirectory (directory : Directory) (target : TargetRecord) : Type 0 where
  pub each : (s : Sort) → IsIndex (index_of s directory) (names_of s target)

-- the directory of any target is that of the target with a variable or list more
abbrev pub Adds : Directory → Directory → Sort → VarName → ℕ → Type 0
Adds old new s name number = (target : TargetRecord) → IsDirectory old target → number ≡ length (names_of s target) → IsDirectory new (with_added s name target)
