-- Where a search along links stands, for private functions: no clause of a public function cites this file.
use Rattle.std.specs.Prelude.{◌≡◌, ℕ, ◌+◌, ◌*◌, ◌≤◌, ◌⊎◌, Bool, true, not, List, length, Some, slice_get, count_by}
use Rattle.std.specs.List.{Contains}
use Rattle.link_graph.specs.Links.{Links, IsGraph}
use Rattle.link_graph.specs.Reach.{Reached}

-- the block was seen
abbrev pub IsSeen : List Bool → ℕ → Type 0
IsSeen seen b = slice_get seen b ≡ Some true

-- the work that is left: two steps for each block that was not seen, one for each that waits
abbrev pub work : List Bool → List ℕ → ℕ
work seen waiting = 2 * count_by not seen + length waiting

-- these blocks were seen, and those that are new among them wait
pub record IsGrown (blocks : List ℕ) (seen : List Bool) (waiting : List ℕ) (seen' : List Bool) (waiting' : List ℕ) : Type 0 where
  pub each : length seen' ≡ length seen
  pub all : (b : ℕ) → Contains blocks b → IsSeen seen' b
  pub kept : (b : ℕ) → IsSeen seen b → IsSeen seen' b
  pub only : (b : ℕ) → IsSeen seen' b → IsSeen seen b ⊎ Contains blocks b
  pub waits : (b : ℕ) → IsSeen seen' b → IsSeen seen b ⊎ Contains waiting' b
  pub still : (b : ℕ) → Contains waiting b → Contains waiting' b
  pub listed : (b : ℕ) → Contains waiting' b → Contains waiting b ⊎ IsSeen seen' b
  pub less : work seen' waiting' ≤ work seen waiting

-- blocks that are seen are reached, and wait or have all their links seen
pub record IsSearch (g : List (List ℕ)) (starts : List ℕ) (seen : List Bool) (waiting : List ℕ) : Type 0 where
  pub graph : IsGraph g
  pub each : length seen ≡ length g
  pub begun : (b : ℕ) → Contains starts b → IsSeen seen b
  pub sound : (b : ℕ) → IsSeen seen b → Reached g starts b
  pub listed : (b : ℕ) → Contains waiting b → IsSeen seen b
  pub waits : (b : ℕ) → IsSeen seen b → Contains waiting b ⊎ ((c : ℕ) → Links g b c → IsSeen seen c)
