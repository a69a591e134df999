-- Words that are whole numbers, and numbers kept in a range.
use Rattle.std.specs.Prelude.{ℕ, ◌==◌, ◌&&◌, ◌||◌, not, min, ℤ, pos, negsuc, neg_ℤ, suc, List, [], ◌∷◌, length, Bool, false}
use Rattle.std.specs.Str.{all_ascii_digits}

-- digits, without a leading zero unless it is 0
abbrev pub is_whole : List ℕ → Bool
is_whole [] = false
is_whole (d ∷ ds) = all_ascii_digits (d ∷ ds) && (not (d == 48) || length ds == 0)

-- a number, in size at most this
abbrev pub kept_within : ℕ → ℤ → ℤ
kept_within most (pos n) = pos (min most n)
kept_within most (negsuc n) = neg_ℤ (pos (min most (suc n)))
