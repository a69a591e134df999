-- Stores of different instances, and what keeps them so.
use Rattle.std.proofs.Common.{◌≡◌, ℕ, zero, suc, ◌+◌, ◌<◌, List, [], ◌∷◌, ◌++◌, length, get_or, set, take, drop, Some, None, Bool, true, false, inl, inr, refl, sym, ap₂, subst, ◌∙◌, arith, map}
use Rattle.std.specs.Prelude.{◌==◌, ◌||◌}
use Rattle.std.specs.List.{enumerate_from, position, find, list_any, filter, remove}
use Rattle.std.proofs.lemmas.List.{map-append, take-map, drop-map}
use Rattle.std.proofs.lemmas.List.Sums.{position_or_len_is}
use Rattle.std.proofs.lemmas.List.Folds.{list_any-append}
use Rattle.std.proofs.lemmas.Bool.{cases_Bool}
use Rattle.std.proofs.lemmas.Bool.Decides.{nat_tests}
use Rattle.std.proofs.Math.Seq.{map-set_same}
use Rattle.machine_spec.specs.declared.variables.Store.{Store}
use Rattle.machine_spec.specs.declared.records.TargetRecord.{TargetRecord}
use Rattle.machine_spec.specs.First.{store}
use Rattle.variables.specs.First.{stores_of}
use Rattle.variables.specs.Distinct.{numbers, IsDistinct}
use Rattle.variables.proofs.Places.{position_at}

or_first : (a b : Bool) → (a || b) ≡ false → a ≡ false
or_first true b e = e
or_first false b e = refl

or_second : (a b : Bool) → (a || b) ≡ false → b ≡ false
or_second true b e = absurd (cc e)
or_second false b e = e

none_at : (q : ℕ → Bool) (ss : List Store) (i : ℕ) (d : Store) → list_any q (numbers ss) ≡ false → i < length ss → q (get_or ss i d).of ≡ false
none_at q [] i d e lt = absurd (omega arith)
none_at q (s ∷ ss) zero d e lt = or_first (q s.of) (list_any q (numbers ss)) e
none_at q (s ∷ ss) (suc i) d e lt = none_at q ss i d (or_second (q s.of) (list_any q (numbers ss)) e) (omega arith)

flipped : (a b : ℕ) → (a == b) ≡ false → (b == a) ≡ false
flipped a b e = grind (arith, nat_tests)

apart : (ss : List Store) (k i : ℕ) (d : Store) → IsDistinct (numbers ss) → k < i → i < length ss → ((get_or ss k d).of == (get_or ss i d).of) ≡ false
apart [] k i d h lt within = absurd (omega arith)
apart (s ∷ ss) k zero d h lt within = absurd (omega arith)
apart (s ∷ ss) zero (suc i) d h lt within = flipped _ _ (none_at (λ m. m == s.of) ss i d h.0 (omega arith))
apart (s ∷ ss) (suc k) (suc i) d h lt within = apart ss k i d h.1 (omega arith) (omega arith)

-- a store of the instance is the first one
pub found_at : (n : ℕ) (ss : List Store) (i : ℕ) (d : Store) → IsDistinct (numbers ss) → i < length ss → (get_or ss i d).of ≡ n → position (λ s. s.of == n) ss ≡ Some i
found_at n ss i d h within is =
    position_at (λ s. s.of == n) ss i
    (position_or_len_is (λ s. s.of == n) ss i d (omega arith)
    (λ k lt. let a = apart ss k i d h lt within in rw is at a)
    (λ _. rw is (grind (arith, nat_tests))))
    within

-- a store is put in place of one of the same instance
pub IsDistinct-set : (ss : List Store) (i : ℕ) (t d : Store) → t.of ≡ (get_or ss i d).of → IsDistinct (numbers ss) → IsDistinct (numbers (set ss i t))
IsDistinct-set ss i t d e h =
    let P : List ℕ → Type 0 = IsDistinct in
    subst P (sym (map-set_same (λ (s : Store). s.of) ss i t d e)) h

none_pushed : (x : ℕ) (ns : List ℕ) (n : ℕ) → list_any (λ m. m == x) ns ≡ false → (n == x) ≡ false → list_any (λ m. m == x) (ns ++ n ∷ []) ≡ false
none_pushed x ns n e f = list_any-append (λ m. m == x) ns (n ∷ []) ∙ ap₂ (λ a b. a || (b || false)) e f

IsDistinct-push : (ns : List ℕ) (n : ℕ) → IsDistinct ns → list_any (λ m. m == n) ns ≡ false → IsDistinct (ns ++ n ∷ [])
IsDistinct-push [] n h e = (refl, tt)
IsDistinct-push (x ∷ xs) n h e =
    (none_pushed x xs n h.0 (flipped x n (or_first (x == n) (list_any (λ m. m == n) xs) e)), IsDistinct-push xs n h.1 (or_second (x == n) (list_any (λ m. m == n) xs) e))

not_there : (n : ℕ) (ss : List Store) → find (λ s. s.of == n) ss ≡ None → list_any (λ m. m == n) (numbers ss) ≡ false
not_there n [] e = refl
not_there n (s ∷ ss) e = elim (cases_Bool (s.of == n)) [
  | inl t ↦ absurd (let f = rw t at e in cc)
  | inr f ↦ rw f (not_there n ss (rw f at e))
]

-- a store of an instance that had none is put behind the others
pub IsDistinct-added : (ss : List Store) (t : Store) → find (λ s. s.of == t.of) ss ≡ None → IsDistinct (numbers ss) → IsDistinct (numbers (ss ++ t ∷ []))
IsDistinct-added ss t e h =
    let P : List ℕ → Type 0 = IsDistinct in
    subst P (sym (map-append (λ (s : Store). s.of) ss (t ∷ []))) (IsDistinct-push (numbers ss) t.of h (not_there t.of ss e))

none-remove : (q : ℕ → Bool) (ns : List ℕ) (k : ℕ) → list_any q ns ≡ false → list_any q (remove ns k) ≡ false
none-remove q [] zero e = refl
none-remove q [] (suc k) e = refl
none-remove q (n ∷ ns) zero e = or_second (q n) (list_any q ns) e
none-remove q (n ∷ ns) (suc k) e =
    ap₂ ◌||◌ (or_first (q n) (list_any q ns) e) (none-remove q ns k (or_second (q n) (list_any q ns) e))

IsDistinct-removed : (ns : List ℕ) (k : ℕ) → IsDistinct ns → IsDistinct (remove ns k)
IsDistinct-removed [] zero h = tt
IsDistinct-removed [] (suc k) h = tt
IsDistinct-removed (n ∷ ns) zero h = h.1
IsDistinct-removed (n ∷ ns) (suc k) h = (none-remove (λ m. m == n) ns k h.0, IsDistinct-removed ns k h.1)

numbers-remove : (ss : List Store) (k : ℕ) → numbers (remove ss k) ≡ remove (numbers ss) k
numbers-remove ss k =
    map-append (λ (s : Store). s.of) (take k ss) (drop (suc k) ss)
    ∙ ap₂ ◌++◌ (sym (take-map (λ (s : Store). s.of) k ss)) (sym (drop-map (λ (s : Store). s.of) (suc k) ss))

-- a store is taken out
pub IsDistinct-remove : (ss : List Store) (k : ℕ) → IsDistinct (numbers ss) → IsDistinct (numbers (remove ss k))
IsDistinct-remove ss k h =
    let P : List ℕ → Type 0 = IsDistinct in
    subst P (sym (numbers-remove ss k)) (IsDistinct-removed (numbers ss) k h)

none-filter : (p : Store → Bool) (q : ℕ → Bool) (ss : List Store) → list_any q (numbers ss) ≡ false → list_any q (numbers (filter p ss)) ≡ false
none-filter p q [] e = refl
none-filter p q (s ∷ ss) e = elim (cases_Bool (p s)) [
  | inl t ↦ rw t (ap₂ ◌||◌ (or_first (q s.of) (list_any q (numbers ss)) e) (none-filter p q ss (or_second (q s.of) (list_any q (numbers ss)) e)))
  | inr f ↦ rw f (none-filter p q ss (or_second (q s.of) (list_any q (numbers ss)) e))
]

-- some stores are kept
pub IsDistinct-filter : (p : Store → Bool) (ss : List Store) → IsDistinct (numbers ss) → IsDistinct (numbers (filter p ss))
IsDistinct-filter p [] h = tt
IsDistinct-filter p (s ∷ ss) h = elim (cases_Bool (p s)) [
  | inl t ↦ rw t (none-filter p (λ m. m == s.of) ss h.0, IsDistinct-filter p ss h.1)
  | inr f ↦ rw f (IsDistinct-filter p ss h.1)
]

none-first : (n k : ℕ) (ts : List TargetRecord) → n < k → list_any (λ m. m == n) (numbers (map (λ x. store x.0 x.1) (enumerate_from k ts))) ≡ false
none-first n k [] lt = refl
none-first n k (t ∷ ts) lt =
    let other : (k == n) ≡ false = grind (arith, nat_tests) in
    ap₂ ◌||◌ other (none-first n (k + 1) ts (omega arith))

IsDistinct-from : (k : ℕ) (ts : List TargetRecord) → IsDistinct (numbers (map (λ x. store x.0 x.1) (enumerate_from k ts)))
IsDistinct-from k [] = tt
IsDistinct-from k (t ∷ ts) = (none-first k (k + 1) ts (omega arith), IsDistinct-from (k + 1) ts)

-- the stores of the originals
pub IsDistinct-first : (ts : List TargetRecord) → IsDistinct (numbers (stores_of ts))
IsDistinct-first ts = IsDistinct-from 0 ts
