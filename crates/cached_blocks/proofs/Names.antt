-- The names of inputs.
use Rattle.std.proofs.Common.{◌≡◌, ℕ, Bool, List, [], ◌∷◌, map, refl, sym, ap, ◌∙◌}
use Rattle.opcode_table.specs.declared.opcode.Opcode.{Opcode}
use Rattle.opcode_table.specs.Table.{row}
use Rattle.project_spec.specs.declared.blocks.Block.{Block}
use Rattle.project_spec.specs.declared.blocks.Operand.{Operand}
use Rattle.project_spec.specs.Trees.{Sheet, op_by, operands}
use Rattle.cached_blocks.specs.Cached.{with_plugged, cached_inputs, same_names, is_in_order}

-- what is plugged in changes no name
names-with_plugged : (blocks : List Block) (xs : List (List ℕ × Operand)) → map (λ x. x.0) (map (with_plugged blocks) xs) ≡ map (λ x. x.0) xs
names-with_plugged blocks [] = refl
names-with_plugged blocks (x ∷ xs) = ap (λ ns. x.0 ∷ ns) (names-with_plugged blocks xs)

pub in-order : (sheet : Sheet) (k : ℕ) (b : Block) (op : Opcode) (inputs lent : List (List ℕ × Operand)) (result : Bool)
    → op ≡ op_by b.code → inputs ≡ cached_inputs sheet k b → lent ≡ inputs → result ≡ same_names (map (λ x. x.0) lent) (map (λ i. i.name) (row op).inputs) → result ≡ is_in_order sheet k b
in-order sheet k b op inputs lent result is made same e =
    e
    ∙ ap (λ xs. same_names (map (λ x. x.0) xs) (map (λ i. i.name) (row op).inputs)) (same ∙ made)
    ∙ ap (λ ns. same_names ns (map (λ i. i.name) (row op).inputs)) (names-with_plugged sheet.blocks (operands sheet k b))
    ∙ ap (λ o. same_names (map (λ x. x.0) (operands sheet k b)) (map (λ i. i.name) (row o).inputs)) is
