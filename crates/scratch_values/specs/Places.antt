-- Helpers of the private places of arguments: the inputs that they hold.
use Rattle.std.specs.Prelude.{ℕ, List, [], ◌∷◌, map}
use Rattle.scratch_values.specs.declared.value.Value.{Value}
use Rattle.scratch_values.specs.declared.args.Places.{Places}
use Rattle.scratch_values.specs.declared.args.Places.TheVariants.{Zero, One, Two, Three, Many}
use Rattle.scratch_values.specs.Held.{pair_of}

-- the inputs in their places
abbrev pub pairs_in : Places → List (List ℕ × Value)
pairs_in Zero = []
pairs_in (One a) = pair_of a ∷ []
pairs_in (Two a b) = pair_of a ∷ (pair_of b ∷ [])
pairs_in (Three a b c) = pair_of a ∷ (pair_of b ∷ (pair_of c ∷ []))
pairs_in (Many inputs) = map pair_of inputs.items
