-- The first place in a list with one more element.
use Rattle.std.proofs.Common.{◌≡◌, ℕ, ◌+◌, ◌≤◌, Bool, true, false, cond, eqb, ltb, if◌then◌else◌, List, [], ◌∷◌, ◌++◌, length, Some, None, arith}
use Rattle.std.specs.Prelude.{position}
use Rattle.std.specs.List.{position_or_len}
use Rattle.std.specs.Option.{option_or}
use Rattle.std.proofs.lemmas.List.Folds.{position_or_len_push}
use Rattle.std.proofs.lemmas.List.Sums.{prefix_len-le-length}
use Rattle.std.proofs.lemmas.List.{length_push}
use Rattle.std.proofs.lemmas.Bool.Decides.{nat_tests}

-- the place k is that of the first that passes, or the length n
pushed : (k n m : ℕ) (b : Bool) → k ≤ n → m ≡ n + 1
    → cond (ltb (cond (eqb k n) (n + cond b 0 1) k) m) (Some (cond (eqb k n) (n + cond b 0 1) k)) None ≡ option_or (cond (ltb k n) (Some k) None) (if b then Some n else None)
pushed k n m true l e = grind (arith, nat_tests)
pushed k n m false l e = grind (arith, nat_tests)

pub position-push : {A : Type 0} (p : A → Bool) (xs : List A) (y : A) → position p (xs ++ y ∷ []) ≡ option_or (position p xs) (if p y then Some (length xs) else None)
position-push p xs y = rw (position_or_len_push p xs y) (pushed (position_or_len p xs) (length xs) (length (xs ++ y ∷ [])) (p y) (prefix_len-le-length _ xs) (length_push xs y))
