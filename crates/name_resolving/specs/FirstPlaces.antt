-- The first place of each text.
use Rattle.std.specs.Prelude.{◌≡◌, ℕ, List, Option, Some, None, bytes_eq, if◌then◌else◌}
use Rattle.std.specs.BTreeMap.{get_by_text}
use Rattle.std.specs.Option.{option_or}
use Rattle.name_resolving.specs.declared.first_places.FirstPlaces.{FirstPlaces}

-- the place that a text has
abbrev pub place_of : FirstPlaces → List ℕ → Option ℕ
place_of m text = get_by_text m.places text

-- a text has its place from now on, if it had none
abbrev pub Notes : FirstPlaces → FirstPlaces → List ℕ → ℕ → Type 0
Notes old new text place = (q : List ℕ) → place_of new q ≡ option_or (place_of old q) (if bytes_eq q text then Some place else None)
