-- What a small document tells, such as
-- `{"name":"Cat","costumes":[{"name":"a","size":"2"}],"variables":{"v":["my variable"]},"visible":null}`.
-- The tests of this crate read it; other crates read their documents in this form.
use Rattle.std.specs.Prelude.{ℕ, List, [], ◌∷◌, Bool, true, Option, Ok, codes}
use Rattle.project_json.specs.Tree.{Tree}
use Rattle.json_shapes.specs.Shapes.{◌>>=◌, Reader, text, truth, items, members, required, defaulted, optional, required_item, each, each_member}

-- a costume: its name, and its size, which may be left out
abbrev pub costume_of : Reader Tree (List ℕ × Option (List ℕ))
costume_of at t =
    members at t >>= (λ ms.
    required text (codes "name") at ms >>= (λ name.
    optional text (codes "size") at ms >>= (λ size.
    Ok (name, size))))

-- the costumes of a sprite
abbrev pub costumes_of : Reader Tree (List (List ℕ × Option (List ℕ)))
costumes_of at t = items at t >>= each costume_of at

-- a variable: its id, and its name, which is the first item of a list
abbrev pub variable_of : Reader (List ℕ × Tree) (List ℕ × List ℕ)
variable_of at m =
    items (m.0 ∷ at) m.1 >>= (λ ts.
    required_item text 0 (m.0 ∷ at) ts >>= (λ name.
    Ok (m.0, name)))

-- the variables of a sprite, by their ids
abbrev pub variables_of : Reader (List (List ℕ × Tree)) (List (List ℕ × List ℕ))
variables_of at ms = defaulted members [] (codes "variables") at ms >>= each_member variable_of (codes "variables" ∷ at)

-- a sprite: its name, its costumes, its variables, whether it is shown
abbrev pub sprite_of : Reader Tree (List ℕ × List (List ℕ × Option (List ℕ)) × List (List ℕ × List ℕ) × Bool)
sprite_of at t =
    members at t >>= (λ ms.
    required text (codes "name") at ms >>= (λ name.
    required costumes_of (codes "costumes") at ms >>= (λ costumes.
    variables_of at ms >>= (λ variables.
    defaulted truth true (codes "visible") at ms >>= (λ visible.
    Ok (name, costumes, variables, visible))))))
