-- What an execution needs of a block, found once at load (scratch-vm, engine/blocks-execute-cache.js and engine/execute.js,
-- BlockCached).
use Rattle.std.specs.Prelude.{ℕ, Bool, true, false, ◌&&◌, if◌then◌else◌, List, [], ◌∷◌, map, slice_get, bytes_eq, Option, None, Some}
use Rattle.std.specs.List.{enumerate_from}
use Rattle.opcode_table.specs.Table.{row}
use Rattle.scratch_values.specs.declared.value.Value.TheVariants.{Text}
use Rattle.scratch_values.specs.declared.names.VarName.{VarName}
use Rattle.scratch_values.specs.declared.names.ResolvedField.{ResolvedField}
use Rattle.machine_spec.specs.Script.{branch_name}
use Rattle.project_spec.specs.declared.blocks.Block.{Block}
use Rattle.project_spec.specs.declared.blocks.Code.{Code}
use Rattle.project_spec.specs.declared.blocks.Code.TheVariants.{Known, Other}
use Rattle.project_spec.specs.declared.blocks.Operand.{Operand}
use Rattle.project_spec.specs.declared.blocks.Operand.TheVariants.{Literal as Holds, Variable as OfVariable, List as OfList, Block as OfBlock}
use Rattle.project_spec.specs.declared.blocks.Resolved.{Resolved}
use Rattle.project_spec.specs.Resolving.{ref_at}
use Rattle.project_spec.specs.Trees.{Sheet, operands, branches, menu_text, op_by, call_code, target_of_link}
use Rattle.cached_blocks.specs.declared.block.CachedBlock.{CachedBlock}

-- the blocks of a target, and what they name
abbrev pub sheet_with : List Block → List (List Resolved) → Sheet
sheet_with blocks refs = record { target = 0; blocks = blocks; refs = refs }

-- a menu stands for the text of its field
abbrev pub plugged_by : Code → ℕ → Block → Operand
plugged_by (Known op) j c = OfBlock j
plugged_by (Other name) j c = Holds (Text (menu_text c.fields))

abbrev pub plugged_at : ℕ → Option Block → Operand
plugged_at j None = OfBlock j
plugged_at j (Some c) = plugged_by c.code j c

abbrev pub plugged : List Block → Operand → Operand
plugged blocks (Holds v) = Holds v
plugged blocks (OfVariable ref) = OfVariable ref
plugged blocks (OfList ref) = OfList ref
plugged blocks (OfBlock j) = plugged_at j (slice_get blocks j)

abbrev pub with_plugged : List Block → List ℕ × Operand → List ℕ × Operand
with_plugged blocks x = (x.0, plugged blocks x.1)

-- the inputs of block k that are evaluated, in document order
abbrev pub cached_inputs : Sheet → ℕ → Block → List (List ℕ × Operand)
cached_inputs sheet k b = map (with_plugged sheet.blocks) (operands sheet k b)

-- the same names in the same order
abbrev pub same_names : List (List ℕ) → List (List ℕ) → Bool
same_names [] [] = true
same_names [] (n ∷ ns) = false
same_names (m ∷ ms) [] = false
same_names (m ∷ ms) (n ∷ ns) = if bytes_eq m n then same_names ms ns else false

-- whether the inputs of a block are just those of its opcode, in the order of the table
abbrev pub is_in_order : Sheet → ℕ → Block → Bool
is_in_order sheet k b = same_names (map (λ x. x.0) (operands sheet k b)) (map (λ i. i.name) (row (op_by b.code)).inputs)

-- the fields of block k, with what they name
abbrev pub cached_field : List (List Resolved) → ℕ → List ℕ × VarName → ResolvedField
cached_field refs k f = record { name = f.0; text = f.1.name; variable = ref_at refs k false f.0 }

abbrev pub cached_fields : Sheet → ℕ → Block → List ResolvedField
cached_fields sheet k b = map (cached_field sheet.refs k) b.fields

-- the block that the first branch of a name begins with
abbrev pub branch_link : List ℕ → List (List ℕ × Option ℕ) → Option ℕ
branch_link name [] = None
branch_link name (x ∷ xs) = if bytes_eq x.0 name then x.1 else branch_link name xs

-- block k of a target
abbrev pub cached_block : Sheet → ℕ → Block → CachedBlock
cached_block sheet k b = record {
  op = op_by b.code;
  inputs = cached_inputs sheet k b;
  in_order = is_in_order sheet k b;
  fields = cached_fields sheet k b;
  next = target_of_link b.next;
  first = branch_link (branch_name 1) (branches b);
  second = branch_link (branch_name 2) (branches b);
  code = call_code b.mutation;
}

abbrev pub cached_at : Sheet → ℕ × Block → CachedBlock
cached_at sheet x = cached_block sheet x.0 x.1

-- the blocks of a target, in document order
abbrev pub cached_blocks : Sheet → List CachedBlock
cached_blocks sheet = map (cached_at sheet) (enumerate_from 0 sheet.blocks)
