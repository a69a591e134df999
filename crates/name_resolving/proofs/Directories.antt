-- The directory of a target with one variable or list more.
use Rattle.std.proofs.Common.{◌≡◌, ℕ, List, [], ◌∷◌, ◌++◌, length, sym, subst}
use Rattle.std.proofs.lemmas.List.{map-append}
use Rattle.scratch_values.specs.declared.names.VarName.{VarName}
use Rattle.machine_spec.specs.declared.records.TargetRecord.{TargetRecord}
use Rattle.project_spec.specs.Resolving.{Sort, OfVariable, OfList, names_of, with_added}
use Rattle.name_resolving.specs.declared.index.Index.{Index}
use Rattle.name_resolving.specs.declared.directory.Directory.{Directory}
use Rattle.name_resolving.specs.Index.{IsIndex}
use Rattle.name_resolving.specs.Directory.{index_of, Adds}

-- what was added is named last
pub names-added : (s : Sort) (name : VarName) (t : TargetRecord) → names_of s (with_added s name t) ≡ names_of s t ++ name ∷ []
names-added OfVariable name t = map-append _ t.variables _
names-added OfList name t = map-append _ t.lists _

-- an index takes names at its end
abbrev pub Takes : Index → Index → VarName → ℕ → Type 0
Takes old new name number = (names : List VarName) → IsIndex old names → number ≡ length names → IsIndex new (names ++ name ∷ [])

pub adds-variable : (old : Directory) (new : Index) (name : VarName) (number : ℕ) → Takes old.variables new name number → Adds old (record { variables = new; lists = old.lists }) OfVariable name number
adds-variable old new name number takes target is last = record { each = by_sort }
  where
    by_sort : (s : Sort) → IsIndex (index_of s (record { variables = new; lists = old.lists })) (names_of s (with_added OfVariable name target))
    by_sort OfVariable = subst (IsIndex new) (sym (names-added OfVariable name target)) (takes _ (is.each OfVariable) last)
    by_sort OfList = is.each OfList

pub adds-list : (old : Directory) (new : Index) (name : VarName) (number : ℕ) → Takes old.lists new name number → Adds old (record { variables = old.variables; lists = new }) OfList name number
adds-list old new name number takes target is last = record { each = by_sort }
  where
    by_sort : (s : Sort) → IsIndex (index_of s (record { variables = old.variables; lists = new })) (names_of s (with_added OfList name target))
    by_sort OfVariable = is.each OfVariable
    by_sort OfList = subst (IsIndex new) (sym (names-added OfList name target)) (takes _ (is.each OfList) last)
