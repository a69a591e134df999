-- How much a project file may hold: counts, the items of lists, and the length of each text that a run can use as a value.
-- The first that is too many is told by its path.
use Rattle.std.specs.Prelude.{ℕ, ◌+◌, ◌*◌, ◌^◌, nat_lt, Bool, true, false, List, [], ◌∷◌, ◌++◌, length, codes, find, flat_map, Option, None, Some, option_map}
use Rattle.std.specs.Fmt.{decimal}
use Rattle.std.specs.List.{enumerate_from, zip}
use Rattle.scratch_values.specs.declared.value.Value.{Value}
use Rattle.scratch_values.specs.declared.value.Value.TheVariants.{Number, Truth, Text}
use Rattle.scratch_values.specs.Longest.{longest}
use Rattle.json_shapes.specs.Places.{path}
use Rattle.machine_spec.specs.declared.records.VariableRecord.{VariableRecord}
use Rattle.machine_spec.specs.declared.records.ListRecord.{ListRecord}
use Rattle.machine_spec.specs.declared.records.TargetRecord.{TargetRecord}
use Rattle.machine_spec.specs.DataRows.{most_items}
use Rattle.project_spec.specs.Blocks.{Input, Mutation, Block}
use Rattle.project_spec.specs.declared.blocks.Input.TheVariants as input
use Rattle.project_spec.specs.declared.blocks.Mutation.TheVariants as mutation
use Rattle.project_spec.specs.Reading.{Origin, Table, File}

-- the bytes of a project file: 32 MiB
abbrev pub project_limit : ℕ
project_limit = 32 * 2 ^ 20

abbrev pub most_targets : ℕ
most_targets = 1000

abbrev pub most_monitors : ℕ
most_monitors = 10000

-- of all targets together
abbrev pub most_blocks : ℕ
most_blocks = 200000

-- what is counted at a place, and how many there may be
pub record Measure : Type 0 where
  pub at : List (List ℕ)
  pub count : ℕ
  pub most : ℕ

abbrev pub measure : List (List ℕ) → (count most : ℕ) → Measure
measure at count most = record { at = at; count = count; most = most }

-- the text of a value
abbrev pub value_measures : List (List ℕ) → Value → List Measure
value_measures at (Number n) = []
value_measures at (Truth b) = []
value_measures at (Text t) = measure at (length t) longest ∷ []

-- the name of a variable or list, and of a block, stands before it
abbrev pub variable_measures : List (List ℕ) → List ℕ × VariableRecord → List Measure
variable_measures at x = value_measures (codes "1" ∷ x.0 ∷ at) x.1.value

abbrev pub item_measures : List (List ℕ) → ℕ × Value → List Measure
item_measures at x = value_measures (decimal x.0 ∷ at) x.1

abbrev pub list_measures : List (List ℕ) → List ℕ × ListRecord → List Measure
list_measures at x =
    measure (codes "1" ∷ x.0 ∷ at) (length x.1.items) most_items ∷ flat_map (item_measures (codes "1" ∷ x.0 ∷ at)) (enumerate_from 0 x.1.items)

abbrev pub costume_measures : List (List ℕ) → ℕ × List ℕ → List Measure
costume_measures at x = measure (codes "name" ∷ decimal x.0 ∷ at) (length x.1) longest ∷ []

-- a record beside its id
abbrev pub id_or_none : Option (List ℕ) → List ℕ
id_or_none None = []
id_or_none (Some id) = id

abbrev pub target_measures : List (List ℕ) → TargetRecord → List Measure
target_measures at t =
    flat_map (λ v. variable_measures (codes "variables" ∷ at) (id_or_none v.name.id, v)) t.variables
    ++ (flat_map (λ l. list_measures (codes "lists" ∷ at) (id_or_none l.name.id, l)) t.lists
    ++ flat_map (costume_measures (codes "costumes" ∷ at)) (enumerate_from 0 t.costumes))

-- the literal of an input
abbrev pub input_measures : List (List ℕ) → List ℕ × Input → List Measure
input_measures at (name, input.Literal v) = value_measures (codes "1" ∷ codes "1" ∷ name ∷ at) v
input_measures at (name, _) = []

-- a field of a block that is a list stands at its place 1
abbrev pub field_place : (is_list : Bool) → List ℕ → List (List ℕ) → List (List ℕ)
field_place true name at = codes "1" ∷ at
field_place false name at = codes "0" ∷ name ∷ codes "fields" ∷ at

-- the defaults of a prototype; those of an unfit one do not count
abbrev pub default_measures : List (List ℕ) → Mutation → List Measure
default_measures at (mutation.Prototype q) = flat_map (value_measures (codes "argumentdefaults" ∷ codes "mutation" ∷ at)) q.defaults
default_measures at _ = []

abbrev pub block_measures : List (List ℕ) → Origin × Block → List Measure
block_measures at (o, b) =
    let here = o.id ∷ at in
    flat_map (input_measures (codes "inputs" ∷ here)) b.inputs
    ++ (flat_map (λ f. measure (field_place o.is_list f.0 here) (length f.1.name) longest ∷ []) b.fields
    ++ default_measures here b.mutation)

abbrev pub table_measures : List (List ℕ) → Table → List Measure
table_measures at table = flat_map (block_measures at) (zip table.origins table.blocks)

-- a target's place, and that of its blocks
abbrev pub target_place : ℕ → List (List ℕ)
target_place i = decimal i ∷ codes "targets" ∷ []

abbrev pub blocks_place : ℕ → List (List ℕ)
blocks_place i = codes "blocks" ∷ target_place i

-- the blocks of a target count with those of the targets before it
abbrev pub counts_from : (before : ℕ) → List (ℕ × Table) → List Measure
counts_from before [] = []
counts_from before (x ∷ xs) = measure (blocks_place x.0) (before + length x.1.blocks) most_blocks ∷ counts_from (before + length x.1.blocks) xs

-- all that is counted, in the order of the tests
abbrev pub measures : File → List Measure
measures f =
    measure (codes "targets" ∷ []) (length f.records.targets) most_targets
    ∷ measure (codes "monitors" ∷ []) (length f.records.monitors) most_monitors
    ∷ counts_from 0 (enumerate_from 0 f.tables)
    ++ (flat_map (λ x. target_measures (target_place x.0) x.1) (enumerate_from 0 f.records.targets)
    ++ flat_map (λ x. table_measures (blocks_place x.0) x.1) (enumerate_from 0 f.tables))

abbrev pub is_too_many : Measure → Bool
is_too_many m = nat_lt m.most m.count

-- the path of the first that is too many
abbrev pub first_too_many : List Measure → Option (List ℕ)
first_too_many ms = option_map (λ m. path m.at) (find is_too_many ms)

abbrev pub too_many : File → Option (List ℕ)
too_many f = first_too_many (measures f)
