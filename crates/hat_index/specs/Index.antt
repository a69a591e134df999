-- The hats of a project as a finite map from a target, an opcode and a folded text.
use Rattle.std.specs.Prelude.{◌≡◌, ℕ, List, [], slice_get, Option, None, Some}
use Rattle.opcode_table.specs.declared.opcode.Opcode.{Opcode}
use Rattle.project_spec.specs.declared.blocks.Block.{Block}
use Rattle.hat_index.specs.declared.index.HatIndex.{HatIndex}
use Rattle.hat_index.specs.declared.target_hats.TargetHats.{TargetHats}
use Rattle.hat_index.specs.Starts.{Start}
use Rattle.hat_index.specs.Hats.{Hat, Index, hats_in, entry, found_in}

-- What the code finds

abbrev pub found_of : Option TargetHats → Opcode → List ℕ → Option (List Start)
found_of None op text = None
found_of (Some hats) op text = found_in hats op text

abbrev pub found_among : List TargetHats → Index
found_among targets t op text = found_of (slice_get targets t) op text

-- what contracts see of an index
abbrev pub found : HatIndex → Index
found index = found_among index.targets.items

-- What it has to find

abbrev pub hats_by : Option (List Block) → Option (List ℕ) → List Hat
hats_by None heads = []
hats_by (Some blocks) None = []
hats_by (Some blocks) (Some heads) = hats_in blocks heads

-- the hats of a target; none where there is no such target
abbrev pub hats_of : (tables : List (List Block)) (heads : List (List ℕ)) (target : ℕ) → List Hat
hats_of tables heads t = hats_by (slice_get tables t) (slice_get heads t)

-- The index of the blocks and the heads of each target has an entry exactly for the target, the opcode and the folded text
-- of each head that is a hat, and the entry lists all such heads, in their order.
abbrev pub IsIndex : Index → (tables : List (List Block)) (heads : List (List ℕ)) → Type 0
IsIndex index tables heads = (t : ℕ) (op : Opcode) (text : List ℕ) → index t op text ≡ entry op text (hats_of tables heads t)
