-- Which variable or list each block of a checked script names: by id in its own target, by id in the stage, by name in its
-- own target, by name in the stage. Where none is found, one is added to the target.
pub use Rattle.project_spec.specs.declared.blocks.Resolved.{Resolved}
use Rattle.std.specs.Prelude.{ℕ, ◌+◌, ◌&&◌, Bool, true, false, if◌then◌else◌, List, [], ◌∷◌, ◌++◌, length, map, flat_map, find, position, slice_get, unwrap_or, bytes_eq, codes, Option, None, Some, option_map}
use Rattle.std.specs.List.{list_any}
use Rattle.std.specs.Option.{option_or}
use Rattle.opcode_table.specs.Table.{row}
use Rattle.scratch_values.specs.declared.names.VarName.{VarName}
use Rattle.scratch_values.specs.declared.names.VarRef.{VarRef}
use Rattle.scratch_values.specs.declared.names.VarRef.TheVariants.{Own, Stage}
use Rattle.scratch_values.specs.declared.value.Value.TheVariants.{Number}
use Rattle.scratch_values.specs.Casts.{zero_number}
use Rattle.machine_spec.specs.Lists.{changed_at}
use Rattle.machine_spec.specs.declared.records.TargetRecord.{TargetRecord}
use Rattle.machine_spec.specs.Program.{Records, record_at, stage_number}
use Rattle.project_spec.specs.Blocks.{Code, Known, Other, Input, Block}
use Rattle.project_spec.specs.declared.blocks.Input.TheVariants as input

-- a variable or a list
pub data Sort : Type 0 where
  OfVariable : Sort
  OfList : Sort

-- what a block names: in a field or in an input of that name
pub record Naming : Type 0 where
  pub in_input : Bool
  pub part : List ℕ
  pub sort : Sort
  pub name : VarName

-- The names in a block: fields first, then inputs

-- a field of the opcode's own row that names a variable or a list
abbrev pub field_sort : List ℕ → Option Sort
field_sort name = if bytes_eq name (codes "VARIABLE") then Some OfVariable else (if bytes_eq name (codes "LIST") then Some OfList else None)

abbrev pub is_own_field : Code → List ℕ → Bool
is_own_field (Known op) name = list_any (bytes_eq name) (row op).fields
is_own_field (Other opcode) name = false

abbrev pub field_naming : Code → List ℕ × VarName → List Naming
field_naming c (part, name) = if is_own_field c part then by_sort (field_sort part) else []
  where
    by_sort : Option Sort → List Naming
    by_sort None = []
    by_sort (Some sort) = record { in_input = false; part = part; sort = sort; name = name } ∷ []

abbrev pub input_naming : List ℕ × Input → List Naming
input_naming (part, input.Variable name) = record { in_input = true; part = part; sort = OfVariable; name = name } ∷ []
input_naming (part, input.List name) = record { in_input = true; part = part; sort = OfList; name = name } ∷ []
input_naming (part, _) = []

abbrev pub namings : Block → List Naming
namings b = flat_map (field_naming b.code) b.fields ++ flat_map input_naming b.inputs

-- Finding

-- an absent id is no id
abbrev pub same_id : VarName → VarName → Bool
same_id wanted other = both wanted.id other.id
  where
    both : Option (List ℕ) → Option (List ℕ) → Bool
    both (Some a) (Some b) = bytes_eq a b
    both _ _ = false

abbrev pub same_name : VarName → VarName → Bool
same_name wanted other = bytes_eq wanted.name other.name

abbrev pub names_of : Sort → TargetRecord → List VarName
names_of OfVariable t = map (λ v. v.name) t.variables
names_of OfList t = map (λ l. l.name) t.lists

-- by id before by name, the own target before the stage
abbrev pub found_in : List VarName → List VarName → VarName → Option VarRef
found_in own stage wanted =
    option_or (option_map Own (position (same_id wanted) own))
    (option_or (option_map Stage (position (same_id wanted) stage))
    (option_or (option_map Own (position (same_name wanted) own))
    (option_map Stage (position (same_name wanted) stage))))

-- Adding

abbrev pub with_added : Sort → VarName → TargetRecord → TargetRecord
with_added OfVariable name t = record t { variables = t.variables ++ record { name = name; value = Number zero_number } ∷ [] }
with_added OfList name t = record t { lists = t.lists ++ record { name = name; items = [] } ∷ [] }

-- What each block names

-- the records with what was added, beside what was found
pub record Found (A : Type 0) : Type 0 where
  pub records : Records
  pub what : A

-- goes on with what was found
abbrev pub and_then : {A B : Type 0} → Found A → (A → Records → Found B) → Found B
and_then f next = next f.what f.records

-- the same records, beside more
abbrev pub before : {A : Type 0} → A → Found (List A) → Found (List A)
before a f = record { records = f.records; what = a ∷ f.what }

-- what was found, or what is added to the target
abbrev pub or_added : Option VarRef → (target : ℕ) → Naming → Records → Found VarRef
or_added (Some ref) t n records = record { records = records; what = ref }
or_added None t n records = record {
  records = record records { targets = changed_at (with_added n.sort n.name) t records.targets };
  what = Own (length (names_of n.sort (record_at t records)));
}

-- the variable or list of a name in a target
abbrev pub resolved_name : (target : ℕ) → Naming → Records → Found VarRef
resolved_name t n records =
    or_added (found_in (names_of n.sort (record_at t records)) (names_of n.sort (record_at (stage_number records) records)) n.name) t n records

-- the names of a block, one after another
abbrev pub resolved_names : (target : ℕ) → List Naming → Records → Found (List Resolved)
resolved_names t [] records = record { records = records; what = [] }
resolved_names t (n ∷ ns) records =
    and_then (resolved_name t n records) (λ ref rs. before (record { in_input = n.in_input; part = n.part; variable = ref }) (resolved_names t ns rs))

-- a block outside checked scripts names nothing
abbrev pub names_in : (is_checked : Bool) → Block → List Naming
names_in true b = namings b
names_in false b = []

-- the blocks of a target from number k on, in block order
abbrev pub resolved_blocks : (ℕ → Bool) → (target k : ℕ) → List Block → Records → Found (List (List Resolved))
resolved_blocks checked t k [] records = record { records = records; what = [] }
resolved_blocks checked t k (b ∷ bs) records =
    and_then (resolved_names t (names_in (checked k) b) records) (λ refs rs. before refs (resolved_blocks checked t (k + 1) bs rs))

-- the targets from number t on, in file order
abbrev pub resolved_targets : (ℕ → ℕ → Bool) → (t : ℕ) → List (List Block) → Records → Found (List (List (List Resolved)))
resolved_targets checked t [] records = record { records = records; what = [] }
resolved_targets checked t (bs ∷ more) records =
    and_then (resolved_blocks (checked t) t 0 bs records) (λ refs rs. before refs (resolved_targets checked (t + 1) more rs))

-- what a part of a block names, by what its block names
abbrev pub ref_in : List Resolved → (in_input : Bool) → List ℕ → Option VarRef
ref_in refs in_input part = option_map (λ r. r.variable) (find (is_at in_input part) refs)
  where
    same : Bool → Bool → Bool
    same true b = b
    same false true = false
    same false false = true

    is_at : Bool → List ℕ → Resolved → Bool
    is_at in_input part r = same in_input r.in_input && bytes_eq r.part part

-- what a part of block k names
abbrev pub ref_at : List (List Resolved) → (k : ℕ) → (in_input : Bool) → List ℕ → Option VarRef
ref_at refs k in_input part = ref_in (unwrap_or (slice_get refs k) []) in_input part
