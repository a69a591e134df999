-- Blocks that are marked as misfits, for private functions: no clause of a public function cites this file.
use Rattle.std.specs.Prelude.{◌≡◌, ◌⊎◌, ℕ, ◌<◌, Bool, true, List, length, slice_get, Some, Contains, flat_map, [], ◌∷◌, if◌then◌else◌, Option, None}
use Rattle.project_spec.specs.declared.blocks.Block.{Block}
use Rattle.project_spec.specs.declared.blocks.Input.{Input}
use Rattle.project_spec.specs.Linked.{Place, input_link, known_block, misfit, misfits}

abbrev pub IsMarked : List Bool → ℕ → Type 0
IsMarked marks k = slice_get marks k ≡ Some true

-- these blocks were marked, and no others
pub record IsMarking (those : List (ℕ × Block)) (marks marks' : List Bool) : Type 0 where
  pub each : length marks' ≡ length marks
  pub kept : (k : ℕ) → IsMarked marks k → IsMarked marks' k
  pub found : (k : ℕ) (b : Block) → Contains those (k, b) → IsMarked marks' k
  pub only : (k : ℕ) → IsMarked marks' k → IsMarked marks k ⊎ ((b : Block) × Contains those (k, b))

-- the block at a place, unless it fits
abbrev pub misfit_if : Bool → ℕ → Block → List (ℕ × Block)
misfit_if fits place b = if fits then [] else (place, b) ∷ []

-- the block that a link at a place leads to, unless it fits there
abbrev pub misfits_by : List Block → Block → Place → Option ℕ → List (ℕ × Block)
misfits_by blocks b place None = []
misfits_by blocks b place (Some k) = misfit blocks b (place, k)

-- the misfits that inputs of a block lead to
abbrev pub misfits_in : List Block → Block → List (List ℕ × Input) → List (ℕ × Block)
misfits_in blocks b inputs = flat_map (misfit blocks b) (flat_map known_block (flat_map input_link inputs))

-- the misfits of the checked blocks before so many are marked
pub record AreMarked (blocks : List Block) (checked : List Bool) (n : ℕ) (marks : List Bool) : Type 0 where
  pub each : length marks ≡ length blocks
  pub sound : (k : ℕ) → IsMarked marks k → (i : ℕ) × (b : Block) × (c : Block) × (slice_get checked i ≡ Some true) × (slice_get blocks i ≡ Some b) × Contains (misfits blocks b) (k, c)
  pub complete : (k i : ℕ) (b c : Block) → i < n → slice_get checked i ≡ Some true → slice_get blocks i ≡ Some b → Contains (misfits blocks b) (k, c) → IsMarked marks k
