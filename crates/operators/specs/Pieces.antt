-- Helpers of the contents of lists: the text of an item, with a space in front or not.
use Rattle.std.specs.Prelude.{ℕ, ◌∷◌, Bool, List, if◌then◌else◌}
use Rattle.scratch_values.specs.declared.value.Value.{Value}
use Rattle.scratch_values.specs.Value.{text_of}

abbrev pub piece : Bool → Value → List ℕ
piece spaced v = if spaced then 32 ∷ text_of v else text_of v
