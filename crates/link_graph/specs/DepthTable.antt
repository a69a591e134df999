-- The depths of all blocks, for private functions: no clause of a public function cites this file.
use Rattle.std.specs.Prelude.{ℕ, ◌+◌, ◌≤◌, Bool, List, slice_index}
use Rattle.link_graph.specs.Depth.{Nests}

-- the depth of a block: no chain from it has more blocks that count, and one has as many
pub record IsDepth (g : List (List ℕ)) (counts : List Bool) (ranks depths : List ℕ) (b : ℕ) : Type 0 where
  pub most : (n : ℕ) → Nests g counts b n → n ≤ slice_index depths b
  pub some : Nests g counts b (slice_index depths b)
  pub small : slice_index depths b ≤ slice_index ranks b + 1
