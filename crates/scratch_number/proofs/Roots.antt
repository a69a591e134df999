-- The largest number that passes a test, and square roots.
use Rattle.std.proofs.Common.{◌≡◌, ℕ, zero, suc, ◌+◌, ◌*◌, ◌<◌, ◌≤◌, Bool, true, false, cond, nat_le, refl, sym, ◌∙◌, add-one, inl, inr, arith}
use Rattle.std.proofs.lemmas.Bool.{cases_lt, cond-true, cond-false, le-leb, lt-leb}
use Rattle.std.proofs.lemmas.Nat.{mul-le}
use Rattle.std.proofs.lemmas.Int.{ints}
use Rattle.std.specs.Prelude.{ℤ, pos, negsuc, ◌≤ℤ◌, unsigned_abs}
use Rattle.scratch_number.specs.declared.number.Num.{Num}
use Rattle.scratch_number.specs.declared.number.Num.TheVariants.{Fixed}
use Rattle.scratch_number.specs.Number.{number}
use Rattle.scratch_number.specs.Angles.{largest, root_of, sqrt, IsSquareRoot}
use Rattle.scratch_number.proofs.Remainders.{number-small}

-- one more number
pub largest-more : (test : ℕ → Bool) (n : ℕ) → largest test (n + 1) ≡ cond (test (n + 1)) (n + 1) (largest test n)
unfolding largest
largest-more test n = rw add-one refl

largest-suc : (test : ℕ → Bool) (n : ℕ) → largest test (suc n) ≡ cond (test (suc n)) (suc n) (largest test n)
unfolding largest
largest-suc test n = refl

pub largest-zero : (test : ℕ → Bool) → largest test 0 ≡ 0
unfolding largest
largest-zero test = refl

-- a number that passes, above which none does, is the largest
pub largest-is : (test : ℕ → Bool) (n r : ℕ) → r ≤ n → test r ≡ true → ((k : ℕ) → r < k → test k ≡ false) → largest test n ≡ r
largest-is test zero r small passes above = largest-zero test ∙ omega arith
largest-is test (suc n) r small passes above = elim (cases_lt r (suc n)) [
  | inl below ↦ largest-suc test n ∙ cond-false _ _ _ (above (suc n) below) ∙ largest-is test n r (omega arith) passes above
  | inr reached ↦ let same : r ≡ suc n = omega arith in largest-suc test n ∙ cond-true _ _ _ (rw same at passes) ∙ sym same
]

pub root_of-is : (n r : ℕ) → r * r ≤ n → n < (r + 1) * (r + 1) → root_of n ≡ r
unfolding root_of
root_of-is n r low high = largest-is (λ k. nat_le (k * k) n) n r (grind (arith, mul-le)) (le-leb _ _ low) (λ k above. lt-leb _ _ (omega (arith, mul-le (r + 1) (r + 1) k k (omega arith) (omega arith))))

-- the root of a product of a number and 10^6 is a number
pub root-small : (n r : ℕ) → n ≤ 9000000000000000000 → r * r ≤ n * 1000000 → r ≤ 9000000000000000000
root-small n r small low = elim (cases_lt 9000000000000000000 r) [
  | inl above ↦ absurd (omega (arith, mul-le 9000000000000000000 9000000000000000000 r r (omega arith) (omega arith)))
  | inr h ↦ h
]

-- the square root of a finite number that is not negative
pub sqrt-is : (x : ℤ) (r : ℕ) (root : Num) → pos 0 ≤ℤ x → r * r ≤ unsigned_abs x * 1000000 → unsigned_abs x * 1000000 < (r + 1) * (r + 1) → root ≡ number (pos r) → root ≡ sqrt (Fixed x)
sqrt-is (pos n) r root known low high e = rw (root_of-is (n * 1000000) r low high) e
sqrt-is (negsuc n) r root known low high e = absurd (omega (arith, ints, known))

pub IsSquareRoot-is : (x : ℤ) (r : ℕ) (root : Num) → pos 0 ≤ℤ x → unsigned_abs x ≤ 9000000000000000000 → r * r ≤ unsigned_abs x * 1000000 → unsigned_abs x * 1000000 < (r + 1) * (r + 1) → root ≡ number (pos r) → IsSquareRoot (Fixed x) root
IsSquareRoot-is (pos n) r root known small low high e = (r, e ∙ number-small (pos r) (root-small n r small low), low, high)
IsSquareRoot-is (negsuc n) r root known small low high e = absurd (omega (arith, ints, known))
