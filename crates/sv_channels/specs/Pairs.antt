-- Lists of pairs of numbers.
use Rattle.std.specs.Prelude.{ℕ, ◌==◌, List, [], ◌∷◌, Option, None, Some, if◌then◌else◌}

-- the second number of the first pair that begins with this number
abbrev pub second_of : List (ℕ × ℕ) → ℕ → Option ℕ
second_of [] first = None
second_of (pair ∷ pairs) first = if pair.0 == first then Some pair.1 else second_of pairs first
