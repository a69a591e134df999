-- A block made of its parts.
use Rattle.std.proofs.Common.{◌≡◌, ℕ, Bool, List, Option}
use Rattle.opcode_table.specs.declared.opcode.Opcode.{Opcode}
use Rattle.scratch_values.specs.declared.names.ResolvedField.{ResolvedField}
use Rattle.project_spec.specs.declared.blocks.Operand.{Operand}
use Rattle.cached_blocks.specs.declared.block.CachedBlock.{CachedBlock}

pub same-block : {op op' : Opcode} {inputs inputs' : List (List ℕ × Operand)} {in_order in_order' : Bool} {fields fields' : List ResolvedField} {next next' first first' second second' : Option ℕ} {code code' : List ℕ}
    → op ≡ op' → inputs ≡ inputs' → in_order ≡ in_order' → fields ≡ fields' → next ≡ next' → first ≡ first' → second ≡ second' → code ≡ code'
    → ◌≡◌ {A = CachedBlock} (record { op = op; inputs = inputs; in_order = in_order; fields = fields; next = next; first = first; second = second; code = code })
    (record { op = op'; inputs = inputs'; in_order = in_order'; fields = fields'; next = next'; first = first'; second = second'; code = code' })
same-block a b c d e f g h = λ i. record { op = a i; inputs = b i; in_order = c i; fields = d i; next = e i; first = f i; second = g i; code = h i }
