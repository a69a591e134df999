-- What a shelf holds: a finite map from the bytes of a name to the bytes of its file.
use Rattle.std.specs.Prelude.{ℕ, List}
use Rattle.std.specs.Ordering.{nat_cmp}
use Rattle.std.specs.Cmp.Lexicographic.{slice_cmp}
use Rattle.std.specs.FinMap.{FinMap, from_entries}

abbrev pub Files : Type 0
Files = FinMap (slice_cmp nat_cmp) (List ℕ)

-- the files of a list of names, each with its bytes: where a name stands twice, its first place counts
abbrev pub files_of : List (List ℕ × List ℕ) → Files
files_of named = from_entries named
