-- Parts of a value before they are read; private functions alone cite these.
use Rattle.std.specs.Prelude.{ℕ, List, ◌∷◌, slice_get, Ok, codes}
use Rattle.std.specs.Fmt.{decimal}
use Rattle.serde_json.specs.Data.{Data}
use Rattle.serde_json.specs.Find.{get}
use Rattle.scratch_values.specs.Named.{item_named}
use Rattle.scratch_values.specs.declared.value.Value.{Value}
use Rattle.scratch_values.specs.declared.value.Value.TheVariants.{Number}
use Rattle.json_shapes.specs.Shapes.{Reader, found, ◌>>=◌}
use Rattle.saved_spec.specs.Kept.{Kept}
use Rattle.saved_spec.specs.Shapes.{num, row, part}
use Rattle.saved_spec.specs.ThreadShapes.{kept_readers}

-- the item at a place of a list
abbrev pub item_at : ℕ → Reader (List Data) Data
item_at i at ds = found (decimal i ∷ at) (slice_get ds i)

-- the value of a member
abbrev pub named : List ℕ → Reader Data Data
named name at d = found (name ∷ at) (get name d)

-- a list of one number
abbrev pub listed_number : Reader Data Value
listed_number at d = row 1 at d >>= (λ ds. part 0 num at ds >>= (λ n. Ok (Number n)))

-- what a block keeps, by its word
abbrev pub kept_named : List ℕ → Reader (List Data) Kept
kept_named word at ds = found (codes "0" ∷ at) (item_named word kept_readers) >>= (λ read. read at ds)
