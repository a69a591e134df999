-- The blocks that links lead to, by number, for private functions: no clause of a public function cites this file.
use Rattle.std.specs.Prelude.{◌≡◌, ℕ, ◌<◌, Contains, Bool, List, [], ◌∷◌, flat_map, map, slice_get, Option, None, Some, IsTrue, not, ◌&&◌, bytes_eq, codes}
use Rattle.std.specs.List.{list_any}
use Rattle.opcode_table.specs.Table.{Input as Wanted}
use Rattle.opcode_table.specs.declared.shape.Role.TheVariants as role
use Rattle.project_spec.specs.declared.blocks.Link.{Link}
use Rattle.project_spec.specs.declared.blocks.Link.TheVariants.{To, Unknown}
use Rattle.project_spec.specs.declared.blocks.Input.{Input}
use Rattle.project_spec.specs.declared.blocks.Input.TheVariants as input
use Rattle.project_spec.specs.declared.blocks.Block.{Block}
use Rattle.project_spec.specs.Linked.{input_link, unknown_id, known_block, leads_to, first, has_role, is_head, is_there, named}

-- the block that a link leads to
abbrev pub known : Option Link → Option ℕ
known None = None
known (Some (To k)) = Some k
known (Some (Unknown id)) = None

-- the id of a link that names no block
abbrev pub unknown : Option Link → Option (List ℕ)
unknown None = None
unknown (Some (To k)) = None
unknown (Some (Unknown id)) = Some id

-- what there is, as a list
abbrev pub listed : Option ℕ → List ℕ
listed None = []
listed (Some k) = k ∷ []

-- the link of an input
abbrev pub link_in : Input → Option Link
link_in (input.Reporter l) = Some l
link_in _ = None

-- the numbers of the blocks that the links of inputs lead to
abbrev pub numbers_in : List (List ℕ × Input) → List ℕ
numbers_in inputs = map (λ x. x.1) (flat_map known_block (flat_map input_link inputs))

abbrev pub input_row : Block → List ℕ
input_row b = numbers_in b.inputs

-- the numbers of the blocks that a block leads to
abbrev pub row : Block → List ℕ
row b = map (λ x. x.1) (leads_to b)

abbrev pub rows : List Block → List (List ℕ)
rows blocks = map row blocks

abbrev pub input_rows : List Block → List (List ℕ)
input_rows blocks = map input_row blocks

-- the first id among those of inputs that names no block
abbrev pub dangling_in : List (List ℕ × Input) → Option (List ℕ)
dangling_in inputs = first (flat_map unknown_id (flat_map input_link inputs))

-- whether a block counts for the depth
abbrev pub is_reporter : Block → Bool
is_reporter b = has_role role.Reporter b.code

-- the block is there, and is a head
abbrev pub IsHeadAt : List Block → ℕ → Type 0
IsHeadAt blocks k = (b : Block) × (slice_get blocks k ≡ Some b) × IsTrue (is_head b)

-- the heads among so many blocks are listed, and heads alone
pub record AreHeads (blocks : List Block) (heads : List ℕ) (n : ℕ) : Type 0 where
  pub sound : (k : ℕ) → Contains heads k → IsHeadAt blocks k
  pub complete : (k : ℕ) → k < n → IsHeadAt blocks k → Contains heads k

-- a block lacks an input of the table
abbrev pub lacks : Block → Wanted → Bool
lacks b w = w.required && not (is_there w.name (named w.name b.inputs))

-- a function without its case that the profile leaves out
abbrev pub is_left_out : List ℕ → Bool
is_left_out name = list_any (bytes_eq name) (codes "ln" ∷ codes "log" ∷ codes "e ^" ∷ codes "10 ^" ∷ [])
