-- Scripts and expressions as trees, with no links left. A block that is reached twice appears twice.
use Rattle.std.specs.Prelude.{ℕ, List, bytes_eq, codes, ◌==◌, if◌then◌else◌}
use Rattle.opcode_table.specs.declared.opcode.Opcode.{Opcode}
use Rattle.scratch_values.specs.declared.value.Value.{Value}
use Rattle.scratch_values.specs.declared.names.VarRef.{VarRef}

-- the texts of a block's fields by their names
abbrev pub Fields : Type 0
Fields = List (List ℕ × List ℕ)

-- the variables and lists that a block's fields name, by the names of the fields
abbrev pub Refs : Type 0
Refs = List (List ℕ × VarRef)

-- a constant, a variable, a list's contents, or an operator with its named inputs in document order; a reporter of a
-- parameter is the operator of its opcode
mutual
  pub data Expression : Type 0 where
    Constant : (value : Value) → Expression
    Variable : (ref : VarRef) → Expression
    Contents : (ref : VarRef) → Expression
    Operator : (op : Opcode) (fields : Fields) (refs : Refs) (inputs : Expressions) → Expression

  pub data Expressions : Type 0 where
    NoInput : Expressions
    AndInput : (name : List ℕ) (expression : Expression) (rest : Expressions) → Expressions

-- where a statement stands: its target, and its block's number there
pub record Place : Type 0 where
  pub target : ℕ
  pub block : ℕ

-- what a block says apart from its inputs; `code` is that of a call
pub record Command : Type 0 where
  pub op : Opcode
  pub fields : Fields
  pub refs : Refs
  pub code : List ℕ

-- a script is a list of statements; a statement has named inputs and named branches, each in document order
mutual
  pub data Script : Type 0 where
    End : Script
    Then : (s : Statement) (rest : Script) → Script

  pub data Statement : Type 0 where
    Does : (place : Place) (command : Command) (inputs : Expressions) (branches : Branches) → Statement

  pub data Branches : Type 0 where
    NoBranch : Branches
    AndBranch : (name : List ℕ) (branch : Script) (more : Branches) → Branches

abbrev pub place_of : Statement → Place
place_of (Does place command inputs branches) = place

abbrev pub command_of : Statement → Command
command_of (Does place command inputs branches) = command

abbrev pub op_of : Statement → Opcode
op_of s = (command_of s).op

abbrev pub inputs_of : Statement → Expressions
inputs_of (Does place command inputs branches) = inputs

abbrev pub branches_of : Statement → Branches
branches_of (Does place command inputs branches) = branches

-- the branch of a name; empty where there is none
abbrev pub branch_named : List ℕ → Branches → Script
branch_named name NoBranch = End
branch_named name (AndBranch n branch more) = if bytes_eq n name then branch else branch_named name more

-- the branch of a number: 1 is SUBSTACK, 2 is SUBSTACK2
abbrev pub branch_name : ℕ → List ℕ
branch_name n = if n == 1 then codes "SUBSTACK" else codes "SUBSTACK2"

abbrev pub branch_of : ℕ → Statement → Script
branch_of n s = branch_named (branch_name n) (branches_of s)

-- the number of the block that a script begins with
abbrev pub first_block : Script → ℕ
first_block End = 0
first_block (Then s rest) = (place_of s).block
