-- The lines of a text.
use Rattle.std.specs.Prelude.{ℕ, List, [], ◌∷◌, ◌++◌}

-- a line that begins so
abbrev pub line : List ℕ → List ℕ → List ℕ
line begin end = begin ++ (end ++ 10 ∷ [])
