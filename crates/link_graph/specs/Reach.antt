-- The blocks that chains of links lead to.
use Rattle.std.specs.Prelude.{◌≡◌, ℕ, Bool, true, List, length, Some, slice_get}
use Rattle.std.specs.List.{Contains}
use Rattle.link_graph.specs.Links.{Links}

-- the block is one of the starts, or a link leads to it from such a block
pub data Reached (g : List (List ℕ)) (starts : List ℕ) : ℕ → Type 0 where
  start : {b : ℕ} → Contains starts b → Reached g starts b
  along : {b c : ℕ} → Reached g starts b → Links g b c → Reached g starts c

-- a truth for each block: whether it is reached
pub record IsReach (g : List (List ℕ)) (starts : List ℕ) (seen : List Bool) : Type 0 where
  pub each : length seen ≡ length g
  pub sound : (b : ℕ) → slice_get seen b ≡ Some true → Reached g starts b
  pub complete : (b : ℕ) → Reached g starts b → slice_get seen b ≡ Some true
