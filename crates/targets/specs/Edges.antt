-- Recorded values of edge hats.
use Rattle.std.specs.Prelude.{ℕ, ◌==◌, List, [], ◌∷◌, Bool, Option, None, Some, if◌then◌else◌}

-- the recorded value of a block, if there is one
abbrev pub edge_of : ℕ → List (ℕ × Bool) → Option Bool
edge_of hat [] = None
edge_of hat (x ∷ xs) = if x.0 == hat then Some x.1 else edge_of hat xs
