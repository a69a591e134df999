-- What the inputs and fields of a `Spec` are in the table of opcodes.
use Rattle.std.specs.Prelude.{ℕ, List}
use Rattle.std.specs.Borrow.{Bor}
use Rattle.opcode_table.specs.declared.shape.InputSpec.{InputSpec}
use Rattle.opcode_table.specs.Table.{Input}

-- the input of the table
abbrev pub input_of : InputSpec → Input
input_of i = record { name = i.name.now; required = i.required }

-- the name of a field
abbrev pub field_of : Bor (List ℕ) → List ℕ
field_of f = f.now
