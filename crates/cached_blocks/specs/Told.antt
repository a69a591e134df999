-- What the cached blocks of a target say of its scripts and expressions, where a rank falls along every link.
use Rattle.std.specs.Prelude.{◌≡◌, ℕ, ◌<◌, List, length, slice_get, slice_index, Option, Some, IfSome}
use Rattle.std.specs.List.{All}
use Rattle.scratch_values.specs.Args.{field_texts, field_variables}
use Rattle.machine_spec.specs.Script.{Expression, Operator, Statement, Then, place_of, command_of, op_of, inputs_of, branch_of}
use Rattle.project_spec.specs.declared.blocks.Block.{Block}
use Rattle.project_spec.specs.declared.blocks.Code.TheVariants.{Known}
use Rattle.project_spec.specs.declared.blocks.Operand.{Operand}
use Rattle.project_spec.specs.declared.blocks.Operand.TheVariants.{Literal as Holds, Variable as OfVariable, List as OfList, Block as OfBlock}
use Rattle.opcode_table.specs.declared.opcode.Opcode.{Opcode}
use Rattle.project_spec.specs.Linked.{IsClosed, AreRanks}
use Rattle.project_spec.specs.Trees.{Sheet, inputs_by, expression, script}
use Rattle.cached_blocks.specs.declared.block.CachedBlock.{CachedBlock}
use Rattle.cached_blocks.specs.Cached.{cached_blocks}

-- block k and its statement say the same
pub record Tells (sheet : Sheet) (k : ℕ) (s : Statement) (c : CachedBlock) : Type 0 where
  pub place : place_of s ≡ record { target = sheet.target; block = k }
  pub op : op_of s ≡ c.op
  pub code : (command_of s).code ≡ c.code
  pub fields : (command_of s).fields ≡ field_texts c.fields
  pub refs : (command_of s).refs ≡ field_variables c.fields
  pub inputs : inputs_of s ≡ inputs_by (expression sheet) c.inputs
  pub first : branch_of 1 s ≡ script sheet c.first
  pub second : branch_of 2 s ≡ script sheet c.second

-- block j is one of the target's, of a smaller rank than block k
pub record IsLower (ranks : List ℕ) (k j : ℕ) : Type 0 where
  pub within : j < length ranks
  pub falls : slice_index ranks j < slice_index ranks k

-- block j has a known opcode
pub record IsReporter (blocks : List Block) (j : ℕ) : Type 0 where
  pub block : Block
  pub held : slice_get blocks j ≡ Some block
  pub op : Opcode
  pub known : block.code ≡ Known op

abbrev pub IsPlugged : List Block → List ℕ → ℕ → Operand → Type 0
IsPlugged blocks ranks k (Holds v) = Unit {0}
IsPlugged blocks ranks k (OfVariable ref) = Unit {0}
IsPlugged blocks ranks k (OfList ref) = Unit {0}
IsPlugged blocks ranks k (OfBlock j) = IsLower ranks k j × IsReporter blocks j

-- all links of block k lead to blocks of smaller ranks, those of inputs to reporters
pub record IsLinked (blocks : List Block) (ranks : List ℕ) (k : ℕ) (c : CachedBlock) : Type 0 where
  pub next : IfSome c.next (IsLower ranks k)
  pub first : IfSome c.first (IsLower ranks k)
  pub second : IfSome c.second (IsLower ranks k)
  pub inputs : All (λ x. IsPlugged blocks ranks k x.1) c.inputs

-- the script at a block is its statement, then the script at its next link
abbrev pub ScriptIsTold : Type 0
ScriptIsTold =
    (sheet : Sheet) (ranks : List ℕ) (k : ℕ) (c : CachedBlock) → AreRanks sheet.blocks ranks → IsClosed sheet.blocks → slice_get (cached_blocks sheet) k ≡ Some c
    → (s : Statement) × (script sheet (Some k) ≡ Then s (script sheet c.next)) × Tells sheet k s c

-- its links fall
abbrev pub LinksFall : Type 0
LinksFall =
    (sheet : Sheet) (ranks : List ℕ) (k : ℕ) (c : CachedBlock) → AreRanks sheet.blocks ranks → IsClosed sheet.blocks → slice_get (cached_blocks sheet) k ≡ Some c
    → IsLinked sheet.blocks ranks k c

-- the expression at a reporter is its operator with the expressions of its inputs
abbrev pub ExpressionIsTold : Type 0
ExpressionIsTold =
    (sheet : Sheet) (ranks : List ℕ) (j : ℕ) (c : CachedBlock) → AreRanks sheet.blocks ranks → IsReporter sheet.blocks j → slice_get (cached_blocks sheet) j ≡ Some c
    → expression sheet j ≡ Operator c.op (field_texts c.fields) (field_variables c.fields) (inputs_by (expression sheet) c.inputs)
