-- The places of members by their names.
use Rattle.std.specs.Prelude.{ℕ, suc, List, [], ◌∷◌, Option, None, Some, bytes_eq, if◌then◌else◌}
use Rattle.std.specs.Option.{option_map}
use Rattle.project_json.specs.Tree.{Tree}

-- the place of the first member with the name
abbrev pub place_of : List ℕ → List (List ℕ × Tree) → Option ℕ
place_of name [] = None
place_of name (m ∷ ms) = if bytes_eq m.0 name then Some 0 else option_map suc (place_of name ms)
