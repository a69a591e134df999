-- What a mutation says of a procedure, and opcodes by their names.
use Rattle.std.proofs.Common.{◌≡◌, ℕ, List, None, Some, Result, Ok, Err, refl, sym, ◌∙◌, ap}
use Rattle.json_shapes.specs.Reads.{Reads}
use Rattle.json_shapes.specs.declared.fault.Fault.{Fault}
use Rattle.json_shapes.specs.declared.fault.Fault.TheVariants as fault
use Rattle.opcode_table.specs.declared.opcode.Opcode.{Opcode}
use Rattle.opcode_table.specs.Table.{of_name}
use Rattle.project_spec.specs.declared.blocks.Mutation.{Mutation}
use Rattle.project_spec.specs.declared.blocks.Mutation.TheVariants as mutation
use Rattle.project_spec.specs.declared.blocks.Code.TheVariants.{Known, Other}
use Rattle.project_spec.specs.declared.refusals.MutationRefusal.{MutationRefusal}
use Rattle.project_spec.specs.declared.refusals.MutationRefusal.TheVariants.{Missing, BadText, LengthsDiffer, NoMemory}
use Rattle.project_spec.specs.Blocks.{code_named}
use Rattle.mutations.specs.Says.{Says}
use Rattle.block_table.specs.FileBlock.{mutation_in}
use Rattle.block_table.specs.Parts.{IsBad}
use Rattle.block_table.specs.declared.file_block.FileMutation.{FileMutation}

-- a mutation that is refused is told to be unfit
pub bad_said : {A B : Type 0} (view : A → B) (told_by : Result B MutationRefusal → Mutation) → ((r : MutationRefusal) → told_by (Err r) ≡ mutation.Bad r)
    → (answer : Result FileMutation Fault) (refusal : MutationRefusal) (told : Result B MutationRefusal)
    → IsBad answer refusal → Says view (Err refusal) told → Reads mutation_in answer (Ok (told_by told))
bad_said view told_by unfit (Ok m) Missing told bad says = ap Ok (ap told_by says ∙ unfit Missing ∙ sym bad.0)
bad_said view told_by unfit (Ok m) BadText told bad says = ap Ok (ap told_by says ∙ unfit BadText ∙ sym bad.0)
bad_said view told_by unfit (Ok m) LengthsDiffer told bad says = ap Ok (ap told_by says ∙ unfit LengthsDiffer ∙ sym bad.0)
bad_said view told_by unfit (Ok m) NoMemory told bad says = absurd (bad.1 refl)
bad_said view told_by unfit (Err (fault.Shape path)) refusal told bad says = absurd bad
bad_said view told_by unfit (Err fault.NoMemory) refusal told bad says = tt

pub code_named-Known : (name : List ℕ) (op : Opcode) → of_name name ≡ Some op → code_named name ≡ Known op
code_named-Known name op e = rw e refl

pub code_named-Other : (name : List ℕ) → of_name name ≡ None → code_named name ≡ Other name
code_named-Other name e = rw e refl
