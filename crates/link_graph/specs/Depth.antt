-- How deep blocks nest along links, where only some of the blocks count.
use Rattle.std.specs.Prelude.{◌≡◌, ℕ, ◌+◌, ◌<◌, Bool, true, false, List, Option, Some, None, length, slice_get}
use Rattle.link_graph.specs.Links.{Links}

-- 1 for a truth, else 0
abbrev pub one_if : Option Bool → ℕ
one_if None = 0
one_if (Some true) = 1
one_if (Some false) = 0

-- 1 for a block that counts, 0 for one that does not
abbrev pub weight : List Bool → ℕ → ℕ
weight counts b = one_if (slice_get counts b)

-- a chain of links from the block has so many blocks that count, the block itself included
pub data Nests (g : List (List ℕ)) (counts : List Bool) : ℕ → ℕ → Type 0 where
  ends : {b n : ℕ} → n ≡ weight counts b → Nests g counts b n
  goes_on : {b c n m : ℕ} → Links g b c → Nests g counts c n → m ≡ weight counts b + n → Nests g counts b m

-- a chain of links from the block has more than so many blocks that count
abbrev pub IsDeep : List (List ℕ) → List Bool → ℕ → ℕ → Type 0
IsDeep g counts limit b = (n : ℕ) × (limit < n) × Nests g counts b n

-- the first block from which blocks nest deeper than the limit
pub record IsFirstDeep (g : List (List ℕ)) (counts : List Bool) (limit : ℕ) (b : ℕ) : Type 0 where
  pub within : b < length g
  pub deep : IsDeep g counts limit b
  pub first : (a : ℕ) → a < b → IsDeep g counts limit a → ⊥
