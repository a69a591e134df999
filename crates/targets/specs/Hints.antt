-- Where numbers are found first; private functions alone cite it.
use Rattle.std.specs.Prelude.{ℕ, ◌<◌, ◌≤◌, ◌%◌, List, length, slice_index}

-- how many remainders there are
abbrev pub slots : ℕ
slots = 2048

-- the hint of the remainder of a number is not behind a place of the number
abbrev pub IsHinted : (hints order : List ℕ) → Type 0
IsHinted hints order = (j : ℕ) → j < length order → slice_index hints (slice_index order j % slots) ≤ j
