-- Ranges of numbers, one more at the end; how many blocks so many copies have.
use Rattle.std.proofs.Common.{◌≡◌, ℕ, zero, suc, ◌+◌, ◌*◌, List, [], ◌∷◌, ◌++◌, flat_map, length, refl, sym, ◌∙◌, ap, arith, append-nil}
use Rattle.std.specs.List.{range_with_len}
use Rattle.std.proofs.lemmas.Grind.{flat_map-append}
use Rattle.std.proofs.lemmas.List.{map-id}
use Rattle.std.proofs.lemmas.List.FromFn.{map-range_with_len_more}
use Rattle.made_texts.specs.MadeProject.{copy_blocks}

range-more : (a n : ℕ) → range_with_len a (n + 1) ≡ range_with_len a n ++ (a + n) ∷ []
range-more a n =
    sym (map-id (range_with_len a (n + 1))) ∙ map-range_with_len_more (λ k. k) a n (a + n) refl
    ∙ ap (λ ks. ks ++ (a + n) ∷ []) (map-id (range_with_len a n))

-- the text of one more number
pub mapped-more : (f : ℕ → List ℕ) (n : ℕ) → flat_map f (range_with_len 1 (n + 1)) ≡ flat_map f (range_with_len 1 n) ++ f (n + 1)
mapped-more f n =
    ap (flat_map f) (range-more 1 n) ∙ flat_map-append f (range_with_len 1 n) ((1 + n) ∷ [])
    ∙ ap (λ s. flat_map f (range_with_len 1 n) ++ s) (append-nil (f (1 + n)) ∙ ap f (let e : 1 + n ≡ n + 1 = omega arith in e))

pub copies-counted : (a n : ℕ) → length (flat_map copy_blocks (range_with_len a n)) ≡ 5 * n
copies-counted a zero = refl
copies-counted a (suc n) = omega (arith, copies-counted (a + 1) n)
