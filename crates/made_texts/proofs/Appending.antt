-- Texts that are appended one by one.
use Rattle.std.proofs.Common.{◌≡◌, ℕ, ◌+◌, List, [], ◌∷◌, ◌++◌, map, refl, sym, ◌∙◌, ap, append_assoc, arith}
use Rattle.std.specs.List.{join_with_byte, range_with_len}
use Rattle.std.proofs.lemmas.List.FromFn.{map-range_with_len_more}

-- what is appended behind a text
pub and_then : (o a b x y : List ℕ) → x ≡ o ++ a → y ≡ x ++ b → y ≡ o ++ (a ++ b)
and_then o a b x y h k = k ∙ ap (λ s. s ++ b) h ∙ append_assoc o a b

-- one more text, behind a separator
pub joined-more : (c : ℕ) (x y : List ℕ) (xs : List (List ℕ)) → join_with_byte c (x ∷ xs ++ y ∷ []) ≡ join_with_byte c (x ∷ xs) ++ (c ∷ y)
joined-more c x y [] = refl
joined-more c x y (z ∷ xs) = ap (λ ys. x ++ (c ∷ ys)) (joined-more c z y xs) ∙ sym (append_assoc x (c ∷ join_with_byte c (z ∷ xs)) (c ∷ y))

-- one more text for the next number
pub listed-more : (f : ℕ → List ℕ) (c : ℕ) (x : List ℕ) (n : ℕ)
    → join_with_byte c (x ∷ map f (range_with_len 1 (n + 1))) ≡ join_with_byte c (x ∷ map f (range_with_len 1 n)) ++ (c ∷ f (n + 1))
listed-more f c x n =
    ap (λ ys. join_with_byte c (x ∷ ys)) (map-range_with_len_more f 1 n (n + 1) (omega arith))
    ∙ joined-more c x (f (n + 1)) (map f (range_with_len 1 n))
