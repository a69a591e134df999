-- Blocks by number, each with the list of the blocks that it links to: dangling links, chains of links, cycles and ranks.
use Rattle.std.specs.Prelude.{◌≡◌, ℕ, ◌<◌, ◌≤◌, ◌^◌, List, [], length, Some, slice_get, slice_index, slice_index_or}
use Rattle.std.specs.List.{Contains}

-- the links of block b, in order; none where there is no such block
abbrev pub links_of : List (List ℕ) → ℕ → List ℕ
links_of g b = slice_index_or g b []

-- a link leads from block b to block c
abbrev pub Links : List (List ℕ) → ℕ → ℕ → Type 0
Links g b c = Contains (links_of g b) c

-- every link names a block
abbrev pub IsClosed : List (List ℕ) → Type 0
IsClosed g = (b c : ℕ) → Links g b c → c < length g

-- every link names a block, and there are few enough blocks for numbers of 32 bits
pub record IsGraph (g : List (List ℕ)) : Type 0 where
  pub closed : IsClosed g
  pub small : length g < 2 ^ 32

-- the first of the links that names none of n blocks
abbrev pub IsDangling : ℕ → List ℕ → ℕ → Type 0
IsDangling n links to = (k : ℕ) × (slice_get links k ≡ Some to) × (n ≤ to) × ((j c : ℕ) → j < k → slice_get links j ≡ Some c → c < n)

-- the first block with a link that names no block, and the first such link of it
pub record IsFirstDangling (g : List (List ℕ)) (b to : ℕ) : Type 0 where
  pub dangling : IsDangling (length g) (links_of g b) to
  pub first : (a c : ℕ) → a < b → Links g a c → c < length g

-- a chain of one link or more leads from one block to another
pub data Chain (g : List (List ℕ)) : ℕ → ℕ → Type 0 where
  one : {b c : ℕ} → Links g b c → Chain g b c
  more : {b c d : ℕ} → Links g b c → Chain g c d → Chain g b d

-- the block lies on a cycle: a chain of links leads from it to itself
abbrev pub IsCyclic : List (List ℕ) → ℕ → Type 0
IsCyclic g b = Chain g b b

-- the first block that lies on a cycle
pub record IsFirstCyclic (g : List (List ℕ)) (b : ℕ) : Type 0 where
  pub cyclic : IsCyclic g b
  pub first : (a : ℕ) → a < b → IsCyclic g a → ⊥

-- a rank for each block, below their number, which falls along every link
pub record HasRanks (g : List (List ℕ)) (ranks : List ℕ) : Type 0 where
  pub each : length ranks ≡ length g
  pub bounded : (b : ℕ) → b < length g → slice_index ranks b < length g
  pub falls : (b c : ℕ) → Links g b c → slice_index ranks c < slice_index ranks b

-- a listing of all blocks by rank: each stands at the place that its rank is
pub record IsListing (ranks order : List ℕ) : Type 0 where
  pub places : (b : ℕ) → b < length ranks → slice_get order (slice_index ranks b) ≡ Some b
  pub placed : (i b : ℕ) → slice_get order i ≡ Some b → (b < length ranks) × (slice_index ranks b ≡ i)
