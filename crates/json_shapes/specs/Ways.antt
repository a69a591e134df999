-- The steps of a place.
use Rattle.std.specs.Prelude.{ℕ, List, [], ◌∷◌}
use Rattle.std.specs.Fmt.{decimal}
use Rattle.json_shapes.specs.declared.place.Way.{Way}
use Rattle.json_shapes.specs.declared.place.Way.TheVariants.{Root, Under, Member, Item}

-- the member names and the list places on the way, the last first, each as its text
abbrev pub steps : Way → List (List ℕ)
steps Root = []
steps (Under path) = path.now ∷ []
steps (Member outer name) = name.now ∷ outer.now
steps (Item outer place) = decimal place ∷ outer.now
