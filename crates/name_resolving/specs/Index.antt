-- Where names stand in a list of names, by id and by name.
use Rattle.std.specs.Prelude.{◌≡◌, ℕ, List, Option, Some, None, position}
use Rattle.scratch_values.specs.declared.names.VarName.{VarName}
use Rattle.project_spec.specs.Resolving.{same_id, same_name}
use Rattle.name_resolving.specs.declared.first_places.FirstPlaces.{FirstPlaces}
use Rattle.name_resolving.specs.declared.index.Index.{Index}
use Rattle.name_resolving.specs.FirstPlaces.{place_of, Notes}

-- an id, where there is one, has its place from now on, if it had none
abbrev pub NotesId : FirstPlaces → FirstPlaces → Option (List ℕ) → ℕ → Type 0
NotesId old new None place = (q : List ℕ) → place_of new q ≡ place_of old q
NotesId old new (Some id) place = Notes old new id place

-- the place of an id; an absent id has none
abbrev pub id_place_by : Index → Option (List ℕ) → Option ℕ
id_place_by index None = None
id_place_by index (Some id) = place_of index.ids id

abbrev pub id_place : Index → VarName → Option ℕ
id_place index wanted = id_place_by index wanted.id

abbrev pub name_place : Index → VarName → Option ℕ
name_place index wanted = place_of index.names wanted.name

-- the index of a list of names: each id and each name has its first place there
pub record IsIndex (index : Index) (names : List VarName) : Type 0 where
  pub ids : (wanted : VarName) → id_place index wanted ≡ position (same_id wanted) names
  pub named : (wanted : VarName) → name_place index wanted ≡ position (same_name wanted) names
