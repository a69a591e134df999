-- The last slot below one of an instance: which it is, and that it stays as slots are appended.
use Rattle.std.proofs.Common.{◌≡◌, ℕ, zero, suc, ◌+◌, ◌<◌, ◌≤◌, Bool, true, false, cond, List, [], ◌∷◌, ◌++◌, length, Option, Some, None, refl, sym, ap, ◌∙◌, arith, add-one, inl, inr}
use Rattle.std.specs.Prelude.{slice_get, ◌==◌}
use Rattle.std.proofs.lemmas.Bool.{cases_lt}
use Rattle.std.proofs.lemmas.Bool.Decides.{nat_tests}
use Rattle.instance_index.specs.Slots.{is_of, last_below}

is_of-true : (of : ℕ) (o : Option ℕ) → is_of of o ≡ true → o ≡ Some of
is_of-true of None test = absurd (cc)
is_of-true of (Some own) test = let e : own ≡ of = grind (arith, nat_tests) in ap (λ (x : ℕ). Some x) e

is_of-false : (of : ℕ) (o : Option ℕ) → (o ≡ Some of → ⊥) → is_of of o ≡ false
is_of-false of None other = refl
is_of-false of (Some own) other = by (own == of) refl
  where
    by : (b : Bool) → (own == of) ≡ b → b ≡ false
    by true same = absurd (other (is_of-true of (Some own) same))
    by false apart = refl

is_of-self : (of : ℕ) → is_of of (Some of) ≡ true
is_of-self of = grind (arith, nat_tests)

-- A slot of a list to which one is appended

pub slice_get-front : (xs : List ℕ) (x k : ℕ) → k < length xs → slice_get (xs ++ x ∷ []) k ≡ slice_get xs k
slice_get-front [] x k within = absurd (omega arith)
slice_get-front (y ∷ ys) x zero within = refl
slice_get-front (y ∷ ys) x (suc k) within = slice_get-front ys x k (omega arith)

pub slice_get-end : (xs : List ℕ) (x : ℕ) → slice_get (xs ++ x ∷ []) (length xs) ≡ Some x
slice_get-end [] x = refl
slice_get-end (y ∷ ys) x = slice_get-end ys x

-- what is appended changes nothing below it
pub last_below-front : (of x : ℕ) (xs : List ℕ) (n : ℕ) → n ≤ length xs → last_below of (xs ++ x ∷ []) n ≡ last_below of xs n
last_below-front of x xs zero within = refl
last_below-front of x xs (suc n) within =
    let rest : last_below of (xs ++ x ∷ []) n ≡ last_below of xs n = last_below-front of x xs n (omega arith) in
    let here : slice_get (xs ++ x ∷ []) n ≡ slice_get xs n = slice_get-front xs x n (omega arith) in
    rw (here, rest) refl

-- the last slot of an instance, with one slot more
pub last_below-append : (of x : ℕ) (xs : List ℕ) → last_below of (xs ++ x ∷ []) (length xs + 1) ≡ cond (x == of) (Some (length xs)) (last_below of xs (length xs))
last_below-append of x xs = rw (add-one, slice_get-end xs x, last_below-front of x xs (length xs) (omega arith)) refl

-- it is below
pub last_below-within : (of : ℕ) (xs : List ℕ) (n k : ℕ) → last_below of xs n ≡ Some k → k < n
last_below-within of xs zero k found = absurd (cc)
last_below-within of xs (suc n) k found = by (is_of of (slice_get xs n)) found (last_below-within of xs n k)
  where
    by : (b : Bool) → cond b (Some n) (last_below of xs n) ≡ Some k → (last_below of xs n ≡ Some k → k < n) → k < suc n
    by true here rest = let e : n ≡ k = cc in omega arith
    by false there rest = let lt : k < n = rest there in omega arith

-- it is of the instance
pub last_below-there : (of : ℕ) (xs : List ℕ) (n k : ℕ) → last_below of xs n ≡ Some k → slice_get xs k ≡ Some of
last_below-there of xs zero k found = absurd (cc)
last_below-there of xs (suc n) k found = by (is_of of (slice_get xs n)) refl found (last_below-there of xs n k)
  where
    by : (b : Bool) → is_of of (slice_get xs n) ≡ b → cond b (Some n) (last_below of xs n) ≡ Some k → (last_below of xs n ≡ Some k → slice_get xs k ≡ Some of) → slice_get xs k ≡ Some of
    by true test here rest = let e : n ≡ k = cc in ap (slice_get xs) (sym e) ∙ is_of-true of (slice_get xs n) test
    by false test there rest = rest there

-- it is the one behind which there is none
pub last_below-some : (of : ℕ) (xs : List ℕ) (n k : ℕ) → k < n → slice_get xs k ≡ Some of → ((j : ℕ) → k < j → j < n → slice_get xs j ≡ Some of → ⊥)
    → last_below of xs n ≡ Some k
last_below-some of xs zero k below at none = absurd (omega arith)
last_below-some of xs (suc n) k below at none =
    elim (cases_lt k n) [
      | inl less ↦
          let rest : last_below of xs n ≡ Some k = last_below-some of xs n k less at (λ j above within. none j above (omega arith)) in
          rw (is_of-false of (slice_get xs n) (none n less (omega arith)), rest) refl
      | inr past ↦
          let same : n ≡ k = omega arith in
          let here : slice_get xs n ≡ Some of = ap (slice_get xs) same ∙ at in
          rw (here, is_of-self of) (ap (λ (x : ℕ). Some x) same)
    ]

-- it is none where there is none
pub last_below-none : (of : ℕ) (xs : List ℕ) (n : ℕ) → ((j : ℕ) → j < n → slice_get xs j ≡ Some of → ⊥) → last_below of xs n ≡ None
last_below-none of xs zero none = refl
last_below-none of xs (suc n) none =
    let rest : last_below of xs n ≡ None = last_below-none of xs n (λ j within. none j (omega arith)) in
    rw (is_of-false of (slice_get xs n) (none n (omega arith)), rest) refl
