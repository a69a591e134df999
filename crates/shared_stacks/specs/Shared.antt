-- Stacks that share a pool: each used slot stands in one of them, once, and a free slot in none.
use Rattle.std.specs.Prelude.{◌≡◌, ℕ, ◌+◌, ◌≤◌, List, [], ◌∷◌}
use Rattle.shared_stacks.specs.declared.stack.Stack.{Stack}
use Rattle.shared_stacks.specs.declared.pool.Pool.{Pool}
use Rattle.shared_stacks.specs.Chains.{times, keys, used, used_at, capacity}

-- how many values stacks have in all
abbrev pub depths : List Stack → ℕ
depths [] = 0
depths (s ∷ ss) = s.depth + depths ss

module _ {T : Type 0} where
  -- in how many places of all stacks a slot stands
  abbrev pub places : Pool T → ℕ → List Stack → ℕ
  places p j [] = 0
  places p j (s ∷ ss) = times j (keys p s) + places p j ss

  -- these are the stacks of the pool: a used slot stands in one place of all, and a free one in none; there are as many used
  -- slots as values
  pub record Share (p : Pool T) (ss : List Stack) : Type 0 where
    pub each : (j : ℕ) → places p j ss ≡ used_at p j
    pub count : used p ≡ depths ss

  -- these are the stacks of the pool, which have no more than so many values, and there is room for so many
  pub record Stand (most : ℕ) (p : Pool T) (ss : List Stack) : Type 0 where
    pub share : Share p ss
    pub few : used p ≤ most
    pub room : most ≤ capacity p
