-- The scripts and expressions at the blocks of a target, and the program of a project.
pub use Rattle.project_spec.specs.declared.blocks.Operand.{Operand}
pub use Rattle.project_spec.specs.declared.blocks.Operand.TheVariants.{Literal as Holds, Variable as OfVariable, List as OfList, Block as OfBlock}
use Rattle.std.specs.Prelude.{ℕ, zero, suc, ◌||◌, Bool, true, false, if◌then◌else◌, List, [], ◌∷◌, length, map, filter, slice_get, bytes_eq, unwrap_or, Option, None, Some}
use Rattle.std.specs.List.{enumerate_from, filter_map}
use Rattle.opcode_table.specs.declared.opcode.Opcode.{Opcode}
use Rattle.opcode_table.specs.declared.opcode.Opcode.TheVariants.{ProceduresPrototype}
use Rattle.opcode_table.specs.declared.shape.Role.TheVariants as role
use Rattle.scratch_values.specs.declared.value.Value.{Value}
use Rattle.scratch_values.specs.declared.value.Value.TheVariants.{Text}
use Rattle.scratch_values.specs.declared.names.VarName.{VarName}
use Rattle.scratch_values.specs.declared.names.VarRef.{VarRef}
use Rattle.scratch_values.specs.declared.names.VarRef.TheVariants.{Own}
use Rattle.machine_spec.specs.Script.{Fields, Refs, Expression, Constant, Variable, Contents, Operator, Expressions, NoInput, AndInput, Command, Script, End, Then, Statement, Does, Branches, NoBranch, AndBranch}
use Rattle.machine_spec.specs.Program.{Head, Procedure, Scripts, Program}
use Rattle.project_spec.specs.Mutation.{Prototype}
use Rattle.project_spec.specs.Blocks.{Link, To, Unknown, Code, Known, Other, Input, Mutation, Block}
use Rattle.project_spec.specs.declared.blocks.Input.TheVariants as input
use Rattle.project_spec.specs.declared.blocks.Mutation.TheVariants as mutation
use Rattle.project_spec.specs.Linked.{is_branch, custom_block, is_head, has_role, named}
use Rattle.project_spec.specs.Resolving.{Resolved, Found, ref_at}

-- the blocks of a target, and what each of them names
pub record Sheet : Type 0 where
  pub target : ℕ
  pub blocks : List Block
  pub refs : List (List Resolved)

abbrev pub named_ref : Sheet → ℕ → (in_input : Bool) → List ℕ → VarRef
named_ref sheet k in_input part = unwrap_or (ref_at sheet.refs k in_input part) (Own 0)

-- What a block's inputs hold: a value, a variable, a list's contents, or the block that is plugged in

-- branches and the custom block are not evaluated
abbrev pub is_apart : List ℕ → Bool
is_apart name = is_branch name || bytes_eq name custom_block

abbrev pub operand_by : Sheet → ℕ → List ℕ → Input → Option (List ℕ × Operand)
operand_by sheet k name (input.Literal v) = Some (name, Holds v)
operand_by sheet k name (input.Reporter (To j)) = Some (name, OfBlock j)
operand_by sheet k name (input.Reporter (Unknown id)) = None
operand_by sheet k name (input.Variable n) = Some (name, OfVariable (named_ref sheet k true name))
operand_by sheet k name (input.List n) = Some (name, OfList (named_ref sheet k true name))
operand_by sheet k name input.Absent = None

abbrev pub operand : Sheet → ℕ → List ℕ × Input → Option (List ℕ × Operand)
operand sheet k (name, x) = if is_apart name then None else operand_by sheet k name x

-- the inputs of block k that are evaluated, in document order
abbrev pub operands : Sheet → ℕ → Block → List (List ℕ × Operand)
operands sheet k b = filter_map (operand sheet k) b.inputs

-- a branch and the block that it begins with; one that holds no block is empty
abbrev pub branch_by : List ℕ → Input → List ℕ × Option ℕ
branch_by name (input.Reporter (To j)) = (name, Some j)
branch_by name _ = (name, None)

abbrev pub branch : List ℕ × Input → Option (List ℕ × Option ℕ)
branch (name, x) = if is_branch name then Some (branch_by name x) else None

-- the branches of a block, in document order
abbrev pub branches : Block → List (List ℕ × Option ℕ)
branches b = filter_map branch b.inputs

-- Expressions

abbrev pub operand_expression : Operand → (ℕ → Expression) → Expression
operand_expression (Holds v) go = Constant v
operand_expression (OfVariable ref) go = Variable ref
operand_expression (OfList ref) go = Contents ref
operand_expression (OfBlock j) go = go j

abbrev pub inputs_by : (ℕ → Expression) → List (List ℕ × Operand) → Expressions
inputs_by go [] = NoInput
inputs_by go ((name, x) ∷ xs) = AndInput name (operand_expression x go) (inputs_by go xs)

-- the texts of fields, and what they name
abbrev pub fields_of : Block → Fields
fields_of b = map (λ f. (f.0, f.1.name)) b.fields

abbrev pub refs_from : Sheet → ℕ → List (List ℕ × VarName) → Refs
refs_from sheet k [] = []
refs_from sheet k (f ∷ fs) = with_ref (ref_at sheet.refs k false f.0) f.0 (refs_from sheet k fs)
  where
    with_ref : Option VarRef → List ℕ → Refs → Refs
    with_ref None name rest = rest
    with_ref (Some ref) name rest = (name, ref) ∷ rest

-- the text of a menu: that of its field
abbrev pub menu_text : List (List ℕ × VarName) → List ℕ
menu_text [] = []
menu_text (f ∷ fs) = f.1.name

abbrev pub expression_by : Code → Sheet → ℕ → Block → (ℕ → Expression) → Expression
expression_by (Known op) sheet k b go = Operator op (fields_of b) (refs_from sheet k b.fields) (inputs_by go (operands sheet k b))
expression_by (Other name) sheet k b go = Constant (Text (menu_text b.fields))

abbrev pub block_expression : Sheet → ℕ → Option Block → (ℕ → Expression) → Expression
block_expression sheet k None go = Constant (Text [])
block_expression sheet k (Some b) go = expression_by b.code sheet k b go

-- the expression at a block, cut after so many links
unfoldable pub expression_within : Sheet → ℕ → ℕ → Expression
expression_within sheet zero k = Constant (Text [])
expression_within sheet (suc n) k = block_expression sheet k (slice_get sheet.blocks k) (expression_within sheet n)

-- the expression at a block: no chain of links is longer than the list of blocks
unfoldable pub expression : Sheet → ℕ → Expression
expression sheet k = expression_within sheet (length sheet.blocks) k

-- Scripts

abbrev pub branches_by : (Option ℕ → Script) → List (List ℕ × Option ℕ) → Branches
branches_by go [] = NoBranch
branches_by go ((name, first) ∷ more) = AndBranch name (go first) (branches_by go more)

abbrev pub call_code : Mutation → List ℕ
call_code (mutation.Call code) = code
call_code _ = []

-- a block whose opcode is not known stands in no checked script; its statement is that of a prototype, which does nothing
abbrev pub op_by : Code → Opcode
op_by (Known op) = op
op_by (Other name) = ProceduresPrototype

abbrev pub command_by : Sheet → ℕ → Block → Command
command_by sheet k b = record { op = op_by b.code; fields = fields_of b; refs = refs_from sheet k b.fields; code = call_code b.mutation }

abbrev pub statement_by : Sheet → ℕ → Block → (ℕ → Expression) → (Option ℕ → Script) → Statement
statement_by sheet k b value go =
    Does (record { target = sheet.target; block = k }) (command_by sheet k b) (inputs_by value (operands sheet k b)) (branches_by go (branches b))

abbrev pub target_of_link : Option Link → Option ℕ
target_of_link None = None
target_of_link (Some (To k)) = Some k
target_of_link (Some (Unknown id)) = None

abbrev pub block_script : Sheet → ℕ → Option Block → (ℕ → Expression) → (Option ℕ → Script) → Script
block_script sheet k None value go = End
block_script sheet k (Some b) value go = Then (statement_by sheet k b value go) (go (target_of_link b.next))

abbrev pub link_script : Sheet → Option ℕ → (ℕ → Expression) → (Option ℕ → Script) → Script
link_script sheet None value go = End
link_script sheet (Some k) value go = block_script sheet k (slice_get sheet.blocks k) value go

-- the script at a link, cut after so many links
unfoldable pub script_within : Sheet → ℕ → Option ℕ → Script
script_within sheet zero o = End
script_within sheet (suc n) o = link_script sheet o (expression sheet) (script_within sheet n)

-- the script at a link
unfoldable pub script : Sheet → Option ℕ → Script
script sheet o = script_within sheet (length sheet.blocks) o

-- the statement of a block
abbrev pub statement : Sheet → ℕ → Block → Statement
statement sheet k b = statement_by sheet k b (expression sheet) (script sheet)

-- Heads and procedures

abbrev pub head_of : Sheet → ℕ → Block → Head
head_of sheet k b = record { hat = statement sheet k b; script = script sheet (target_of_link b.next) }

-- the heads of a target that are hats, in block order
abbrev pub hat_at : Sheet → ℕ × Block → Option Head
hat_at sheet (k, b) = if is_head b then (if has_role role.Hat b.code then Some (head_of sheet k b) else None) else None

abbrev pub heads_of : Sheet → List Head
heads_of sheet = filter_map (hat_at sheet) (enumerate_from 0 sheet.blocks)

-- the prototype of a definition
abbrev pub prototype_at : Option Block → Option Prototype
prototype_at None = None
prototype_at (Some c) = declared c.mutation
  where
    declared : Mutation → Option Prototype
    declared (mutation.Prototype q) = Some q
    declared _ = None

abbrev pub linked_prototype : Sheet → Option Input → Option Prototype
linked_prototype sheet (Some (input.Reporter (To j))) = prototype_at (slice_get sheet.blocks j)
linked_prototype sheet _ = None

abbrev pub procedure_by : Sheet → ℕ → Option Prototype → Option Procedure
procedure_by sheet k None = None
procedure_by sheet k (Some q) = Some (record { code = q.code; ids = q.ids; names = q.names; defaults = q.defaults; warp = q.warp; body = script sheet (Some k) })

abbrev pub procedure_at : Sheet → ℕ × Block → Option Procedure
procedure_at sheet (k, b) =
    if is_head b then (if has_role role.Definition b.code then procedure_by sheet k (linked_prototype sheet (named custom_block b.inputs)) else None) else None

-- the first definition of each code counts
abbrev pub first_of_each : List Procedure → List Procedure
first_of_each [] = []
first_of_each (q ∷ qs) = q ∷ filter (λ other. differs q other) (first_of_each qs)
  where
    differs : Procedure → Procedure → Bool
    differs q other = if bytes_eq q.code other.code then false else true

abbrev pub procedures_of : Sheet → List Procedure
procedures_of sheet = first_of_each (filter_map (procedure_at sheet) (enumerate_from 0 sheet.blocks))

abbrev pub scripts_of : Sheet → Scripts
scripts_of sheet = record { heads = heads_of sheet; procedures = procedures_of sheet }

abbrev pub sheet_of : List (List (List Resolved)) → ℕ × List Block → Sheet
sheet_of refs (t, blocks) = record { target = t; blocks = blocks; refs = unwrap_or (slice_get refs t) [] }

-- the blocks of each target, and what they name, in file order
abbrev pub sheets : List (List Block) → List (List (List Resolved)) → List Sheet
sheets tables refs = map (sheet_of refs) (enumerate_from 0 tables)

-- the program of a project, where names are resolved
abbrev pub program : List (List Block) → Found (List (List (List Resolved))) → Program
program tables f = record { records = f.records; scripts = map scripts_of (sheets tables f.what) }
