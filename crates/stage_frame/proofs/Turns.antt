-- Turns of loops.
use Rattle.std.proofs.Common.{◌≡◌, ℕ, zero, suc, ◌+◌, ◌<◌, List, [], ◌∷◌, ◌++◌, length, get_or, drop, map, refl, ap, ◌∙◌, sym, arith, append_assoc, add-one}
use Rattle.std.specs.Prelude.{Some, Bool, false, slice_get, unwrap_or, flat_map}
use Rattle.std.specs.List.{zip}

zip_none : {X : Type 0} (xs : List X) (bs : List Bool) → bs ≡ [] → zip xs bs ≡ []
zip_none [] bs e = refl
zip_none (x ∷ xs) [] e = refl
zip_none (x ∷ xs) (b ∷ bs) e = absurd (cc)

none_more : {X : Type 0} (f : X × Bool → List ℕ) (x : X) (xs ys : List X) → f (x, false) ≡ []
    → flat_map f (zip xs []) ≡ f (x, false) ++ flat_map f (zip ys [])
none_more f x xs ys none =
    ap (flat_map f) (zip_none xs [] refl) ∙ sym (ap (flat_map f) (zip_none ys [] refl)) ∙ ap (λ u. u ++ flat_map f (zip ys [])) (sym none)

-- of two lists side by side, where the second tells which items of the first have a piece
pairs_next : {X Y : Type 0} (f : Y × Bool → List ℕ) (v : X → Y) (xs : List X) (bs : List Bool) (k : ℕ) (d : X) → ((y : Y) → f (y, false) ≡ []) → k < length xs
    → flat_map f (zip (map v (drop k xs)) (drop k bs)) ≡ f (v (get_or xs k d), unwrap_or (slice_get bs k) false) ++ flat_map f (zip (map v (drop (suc k) xs)) (drop (suc k) bs))
pairs_next f v [] bs k d none h = absurd (omega arith)
pairs_next f v (x ∷ xs) [] zero d none h = none_more f (v x) [] (map v xs) (none (v x))
pairs_next f v (x ∷ xs) (b ∷ bs) zero d none h = refl
pairs_next f v (x ∷ xs) [] (suc k) d none h = none_more f (v (get_or xs k d)) (map v (drop k xs)) (map v (drop (suc k) xs)) (none (v (get_or xs k d)))
pairs_next f v (x ∷ xs) (b ∷ bs) (suc k) d none h = pairs_next f v xs bs k d none (omega arith)

-- a piece is appended for the item at place k, where it has one
pub pairs_more : {X Y : Type 0} (f : Y × Bool → List ℕ) (v : X → Y) (xs : List X) (bs : List Bool) (k : ℕ) (x : X) (b : Bool) (old new : List ℕ) → ((y : Y) → f (y, false) ≡ []) → k < length xs
    → x ≡ get_or xs k x → b ≡ unwrap_or (slice_get bs k) false → new ≡ old ++ f (v x, b)
    → new ++ flat_map f (zip (map v (drop (k + 1) xs)) (drop (k + 1) bs)) ≡ old ++ flat_map f (zip (map v (drop k xs)) (drop k bs))
pairs_more f v xs bs k x b old new none h here told e =
    let rest = flat_map f (zip (map v (drop (k + 1) xs)) (drop (k + 1) bs)) in
    let next : flat_map f (zip (map v (drop k xs)) (drop k bs)) ≡ f (v (get_or xs k x), unwrap_or (slice_get bs k) false) ++ rest = rw add-one (pairs_next f v xs bs k x none h) in
    let same : f (v (get_or xs k x), unwrap_or (slice_get bs k) false) ≡ f (v x, b) = cc in
    ap (λ o. o ++ rest) e ∙ append_assoc old (f (v x, b)) rest ∙ ap (λ u. old ++ u) (sym (next ∙ ap (λ u. u ++ rest) same))

-- a piece is appended for a name and the number at place k
pub named_more : {X Y : Type 0} (f : X × Y → List ℕ) (n : X) (ns : List X) (ys : List Y) (k : ℕ) (y : Y) (old new : List ℕ) → slice_get ys k ≡ Some y
    → new ≡ old ++ f (n, y) → new ++ flat_map f (zip ns (drop (suc k) ys)) ≡ old ++ flat_map f (zip (n ∷ ns) (drop k ys))
named_more f n ns [] k y old new is e = absurd (cc)
named_more f n ns (x ∷ ys) zero y old new is e =
    ap (λ o. o ++ flat_map f (zip ns ys)) e ∙ append_assoc old (f (n, y)) (flat_map f (zip ns ys))
    ∙ ap (λ z. old ++ (f (n, z) ++ flat_map f (zip ns ys))) (cc)
named_more f n ns (x ∷ ys) (suc k) y old new is e = named_more f n ns ys k y old new is e
