-- Blocks as a project file has them, whose literals and defaults may be longer than the values of a run.
use Rattle.std.specs.Prelude.{ℕ, List, map}
use Rattle.project_spec.specs.declared.blocks.Input.{Input}
use Rattle.project_spec.specs.declared.blocks.Mutation.{Mutation}
use Rattle.project_spec.specs.declared.blocks.Block.{Block}
use Rattle.project_spec.specs.declared.blocks.Input.TheVariants as input
use Rattle.project_spec.specs.declared.blocks.Mutation.TheVariants as mutation
use Rattle.project_spec.specs.FileValues.{value_in}
use Rattle.mutations.specs.FilePrototype.{prototype_of}
use Rattle.block_table.specs.declared.file_block.FileInput.{FileInput}
use Rattle.block_table.specs.declared.file_block.FileInput.TheVariants as file
use Rattle.block_table.specs.declared.file_block.FileMutation.{FileMutation}
use Rattle.block_table.specs.declared.file_block.FileMutation.TheVariants as said
use Rattle.block_table.specs.declared.file_block.FileBlock.{FileBlock}

-- the input
abbrev pub input_in : FileInput → Input
input_in (file.Literal v) = input.Literal (value_in v)
input_in (file.Reporter l) = input.Reporter l
input_in (file.Variable name) = input.Variable name
input_in (file.List name) = input.List name
input_in file.Absent = input.Absent

-- beside its name
abbrev pub named_input : List ℕ × FileInput → List ℕ × Input
named_input x = (x.0, input_in x.1)

-- what the mutation says
abbrev pub mutation_in : FileMutation → Mutation
mutation_in said.None = mutation.None
mutation_in (said.Prototype q) = mutation.Prototype (prototype_of q)
mutation_in (said.Call code) = mutation.Call code
mutation_in (said.Bad refusal) = mutation.Bad refusal

-- the block
abbrev pub block_in : FileBlock → Block
block_in b = record {
  code = b.code;
  next = b.next;
  inputs = map named_input b.inputs;
  fields = b.fields;
  shadow = b.shadow;
  top_level = b.top_level;
  mutation = mutation_in b.mutation;
}
