-- Counts of originals, one more instance at a time, and all of them.
use Rattle.std.proofs.Common.{◌≡◌, ℕ, zero, suc, ◌+◌, ◌^◌, ◌<◌, ◌≤◌, ◌==◌, Bool, true, false, cond, ◌&&◌, List, [], ◌∷◌, length, get_or, take, refl, sym, ap, ◌∙◌, arith}
use Rattle.std.specs.Prelude.{filter, if◌then◌else◌, slice_index}
use Rattle.std.specs.List.{list_all, range_with_len}
use Rattle.std.proofs.lemmas.List.Filters.{length-filter_more}
use Rattle.saved_checks.specs.Originals.{AreCounted, HasRoom, is_original_of, originals_of}
use Rattle.saved_parts.specs.declared.instances.ToldInstance.{ToldInstance}

few : {A : Type 0} (p : A → Bool) (xs : List A) → length (filter p xs) ≤ length xs
few p [] = omega arith
few p (x ∷ xs) = by (p x) (few p xs)
  where
    by : (b : Bool) → length (filter p xs) ≤ length xs → length (cond b (x ∷ filter p xs) (filter p xs)) ≤ suc (length xs)
    by true h = omega arith
    by false h = omega arith

at-most : {A : Type 0} (k : ℕ) (xs : List A) → length (take k xs) ≤ k
at-most zero xs = omega arith
at-most (suc k) [] = omega arith
at-most (suc k) (x ∷ xs) = let h = at-most k xs in omega arith

-- no count is above the number of instances
pub room : (is : List ToldInstance) (k n targets : ℕ) (counts : List ℕ) → k < n → n < 2 ^ 64 → AreCounted (take k is) targets counts → HasRoom counts
room is k n targets counts lt fits h j here =
    let a : slice_index counts j ≡ length (filter (is_original_of j) (take k is)) = h.each j here in
    let b : length (filter (is_original_of j) (take k is)) ≤ length (take k is) = few (is_original_of j) (take k is) in
    let d : length (take k is) ≤ k = at-most k is in
    omega arith

pub one-more : (is : List ToldInstance) (k targets : ℕ) (i : ToldInstance) (old new : List ℕ) → k < length is → i ≡ get_or is k i → length new ≡ length old
    → ((j : ℕ) → j < length old → slice_index new j ≡ slice_index old j + (if is_original_of j i then 1 else 0))
    → AreCounted (take k is) targets old → AreCounted (take (k + 1) is) targets new
one-more is k targets i old new lt e same step h = record {
  many = same ∙ h.many;
  each = λ j here.
      let there : j < length old = omega arith in
      step j there ∙ ap (λ n. n + (if is_original_of j i then 1 else 0)) (h.each j there)
      ∙ ap (λ x. originals_of j (take k is) + (if is_original_of j x then 1 else 0)) e
      ∙ sym (length-filter_more (is_original_of j) is k i lt);
}

rest : (f : ℕ → ℕ) (a : ℕ) (counts : List ℕ) → ((k : ℕ) → k < length counts → slice_index counts k ≡ f (a + k)) → list_all (λ n. n == 1) counts ≡ list_all (λ k. f k == 1) (range_with_len a (length counts))
rest f a [] h = refl
rest f a (c ∷ cs) h =
    let first : c ≡ f a = h 0 (omega arith) ∙ ap f (zero-more a) in
    ap (λ n. (n == 1) && list_all (λ n. n == 1) cs) first
    ∙ ap (λ t. (f a == 1) && t) (rest f (a + 1) cs (λ k lt. h (suc k) (omega arith) ∙ ap f (shift a k)))
  where
    zero-more : (a : ℕ) → a + 0 ≡ a
    zero-more a = omega arith

    shift : (a k : ℕ) → a + suc k ≡ (a + 1) + k
    shift a k = omega arith

pub all-one : (is : List ToldInstance) (targets : ℕ) (counts : List ℕ) → AreCounted is targets counts → list_all (λ n. n == 1) counts ≡ list_all (λ k. originals_of k is == 1) (range_with_len 0 targets)
all-one is targets counts h =
    rest (λ k. originals_of k is) 0 counts (λ k lt. h.each k lt ∙ ap (λ j. originals_of j is) (none-before k))
    ∙ ap (λ n. list_all (λ k. originals_of k is == 1) (range_with_len 0 n)) h.many
  where
    none-before : (k : ℕ) → k ≡ 0 + k
    none-before k = omega arith
