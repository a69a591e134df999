-- The text of the made project is short.
use Rattle.std.proofs.Common.{◌≡◌, ℕ, zero, suc, ◌+◌, ◌*◌, ◌^◌, ◌<◌, ◌≤◌, List, [], ◌∷◌, ◌++◌, map, length, refl, sym, subst, arith, length-append}
use Rattle.std.specs.Fmt.{decimal}
use Rattle.std.specs.List.{join_with_byte, range_with_len}
use Rattle.std.proofs.lemmas.Fmt.{length-decimal-le}
use Rattle.made_texts.specs.MadeProject.{copy, made_end, made_project, stage}
use Rattle.made_texts.proofs.Copies.{copy_with, copy-copy_with}

-- a copy whose number has up to five digits
copy_of : (d : List ℕ) → length d ≤ 5 → length (copy_with d) ≤ 1028
copy_of [] h = let e : length (copy_with []) ≡ 1013 = refl in omega (arith, e)
copy_of (p ∷ []) h = let e : length (copy_with (p ∷ [])) ≡ 1016 = refl in omega (arith, e)
copy_of (p ∷ q ∷ []) h = let e : length (copy_with (p ∷ q ∷ [])) ≡ 1019 = refl in omega (arith, e)
copy_of (p ∷ q ∷ r ∷ []) h = let e : length (copy_with (p ∷ q ∷ r ∷ [])) ≡ 1022 = refl in omega (arith, e)
copy_of (p ∷ q ∷ r ∷ s ∷ []) h = let e : length (copy_with (p ∷ q ∷ r ∷ s ∷ [])) ≡ 1025 = refl in omega (arith, e)
copy_of (p ∷ q ∷ r ∷ s ∷ t ∷ []) h = let e : length (copy_with (p ∷ q ∷ r ∷ s ∷ t ∷ [])) ≡ 1028 = refl in omega (arith, e)
copy_of (p ∷ q ∷ r ∷ s ∷ t ∷ u ∷ d) h = absurd (omega (arith, h))

copy_short : (k : ℕ) → k < 100000 → length (copy k) ≤ 1028
copy_short k few =
    let top : 10 ^ 5 ≡ 100000 = refl in
    let far : 2 ^ 64 ≡ 18446744073709551616 = refl in
    let digits = length-decimal-le 5 k (omega arith) (omega (arith, few, top)) (omega (arith, few, far)) in
    subst (λ t. length t ≤ 1028) (sym (copy-copy_with k)) (copy_of (decimal k) digits)

-- texts of up to 1,028 bytes with a byte between each two, behind a first one
joined_few : (f : ℕ → List ℕ) (c : ℕ) (x : List ℕ) (a n : ℕ) → ((k : ℕ) → k < a + n → length (f k) ≤ 1028)
    → length (join_with_byte c (x ∷ map f (range_with_len a n))) ≤ length x + 1029 * n
joined_few f c x a zero h = omega arith
joined_few f c x a (suc n) h =
    let rest = joined_few f c (f a) (a + 1) n (λ k less. h k (omega (arith, less))) in
    let whole = length-append x (c ∷ join_with_byte c (f a ∷ map f (range_with_len (a + 1) n))) in
    let one = h a (omega arith) in
    omega (arith, rest, whole, one)

pub few_bytes : (copies : ℕ) → copies < 65536 → length (made_project copies) < 2 ^ 32
few_bytes n few =
    let joined = join_with_byte 44 (stage ∷ map copy (range_with_len 1 n)) in
    let copies = joined_few copy 44 stage 1 n (λ k less. copy_short k (omega (arith, less, few))) in
    let first : length stage ≡ 619 = refl in
    let last : length (made_end ++ []) ≡ 179 = refl in
    let whole : length (made_project n) ≡ suc (suc (suc (suc (suc (suc (suc (suc (suc (suc (suc (suc (length (joined ++ (made_end ++ [])))))))))))))) = refl in
    let far : 2 ^ 32 ≡ 4294967296 = refl in
    omega (arith, few, copies, first, last, whole, far, length-append joined (made_end ++ []))
