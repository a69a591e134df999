-- Parts of a block, each as one step of its reading.
use Rattle.std.specs.Prelude.{◌≡◌, ◌≢◌, ℕ, List, [], ◌∷◌, Bool, codes, Result, Ok, Err}
use Rattle.project_json.specs.Tree.{Tree}
use Rattle.scratch_values.specs.declared.names.VarName.{VarName}
use Rattle.json_shapes.specs.Shapes as shape
use Rattle.json_shapes.specs.Shapes.{Reader, ◌>>=◌}
use Rattle.json_shapes.specs.declared.fault.Fault.{Fault}
use Rattle.json_shapes.specs.declared.fault.Fault.TheVariants as fault
use Rattle.json_shapes.specs.declared.fault.Fault.TheVariants.{Shape}
use Rattle.project_spec.specs.declared.blocks.Input.{Input}
use Rattle.project_spec.specs.Blocks.{Ids, input_of, field_of}
use Rattle.project_spec.specs.Reading.{origin_of}
use Rattle.project_spec.specs.declared.blocks.Mutation.TheVariants as mutation
use Rattle.project_spec.specs.declared.refusals.MutationRefusal.{MutationRefusal}
use Rattle.project_spec.specs.declared.refusals.MutationRefusal.TheVariants.{NoMemory}
use Rattle.block_table.specs.FileBlock.{mutation_in}
use Rattle.block_table.specs.declared.file_block.FileMutation.{FileMutation}

-- the members of an object that is a block
abbrev pub Members : Type 0
Members = List (List ℕ × Tree)

abbrev pub inputs_in : Ids → Reader Members (List (List ℕ × Input))
inputs_in ids at ms = shape.given shape.members [] (codes "inputs") at ms >>= shape.each_member (input_of ids) (codes "inputs" ∷ at)

abbrev pub fields_in : Reader Members (List (List ℕ × VarName))
fields_in at ms = shape.given shape.members [] (codes "fields") at ms >>= shape.each_member field_of (codes "fields" ∷ at)

-- whether a block is a list
abbrev pub is_list : List ℕ × Tree → Bool
is_list m = (origin_of m).is_list

-- what is said of a mutation that is refused; where memory ran out nothing is
abbrev pub IsBad : Result FileMutation Fault → MutationRefusal → Type 0
IsBad (Ok m) refusal = (mutation_in m ≡ mutation.Bad refusal) × (refusal ≢ NoMemory)
IsBad (Err (Shape path)) refusal = ⊥
IsBad (Err fault.NoMemory) refusal = refusal ≡ NoMemory
