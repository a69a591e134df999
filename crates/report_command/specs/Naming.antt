-- The command's words.
use Rattle.std.specs.Prelude.{ℕ, List, [], ◌∷◌, Option, None, Some}

-- `PROJECT`: the name of a project file, without the program's name
abbrev pub name_of : List (List ℕ) → Option (List ℕ)
name_of (name ∷ []) = Some name
name_of words = None
