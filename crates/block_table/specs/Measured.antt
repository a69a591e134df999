-- What is measured in a block that stands at a place.
use Rattle.std.specs.Prelude.{ℕ, Bool, List, [], ◌∷◌, ◌++◌, length, flat_map, codes}
use Rattle.scratch_values.specs.declared.names.VarName.{VarName}
use Rattle.scratch_values.specs.Longest.{longest}
use Rattle.project_spec.specs.declared.blocks.Input.{Input}
use Rattle.project_spec.specs.declared.blocks.Mutation.{Mutation}
use Rattle.project_spec.specs.declared.blocks.Block.{Block}
use Rattle.project_spec.specs.Limits.{Measure, measure, input_measures, field_place, default_measures}

-- the text of a field
abbrev pub field_measures : (is_list : Bool) → List (List ℕ) → List ℕ × VarName → List Measure
field_measures is_list here f = measure (field_place is_list f.0 here) (length f.1.name) longest ∷ []

-- literals, fields and defaults, in this order
abbrev pub measured_parts : (is_list : Bool) → List (List ℕ) → List (List ℕ × Input) → List (List ℕ × VarName) → Mutation → List Measure
measured_parts is_list here inputs fields mutation =
    flat_map (input_measures (codes "inputs" ∷ here)) inputs
    ++ (flat_map (field_measures is_list here) fields
    ++ default_measures here mutation)

abbrev pub measured_block : (is_list : Bool) → List (List ℕ) → Block → List Measure
measured_block is_list here b = measured_parts is_list here b.inputs b.fields b.mutation
