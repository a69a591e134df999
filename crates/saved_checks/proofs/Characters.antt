-- The characters of a text.
use Rattle.std.proofs.Common.{◌≡◌, ℕ, ◌+◌, Bool, true, false, cond, List, [], ◌∷◌, length, refl, arith}
use Rattle.std.specs.Prelude.{filter}
use Rattle.std.specs.Fmt.{char_count, is_char_start}

one : (b : Bool) (x n : ℕ) (xs : List ℕ) → length xs ≡ n → length (cond b (x ∷ xs) xs) ≡ cond b 1 0 + n
one true x n xs e = omega arith
one false x n xs e = omega arith

-- each begins with one byte
pub count-firsts : (t : List ℕ) → length (filter is_char_start t) ≡ char_count t
unfolding char_count
count-firsts [] = refl
count-firsts (b ∷ t) = one (is_char_start b) b (char_count t) (filter is_char_start t) (count-firsts t)
