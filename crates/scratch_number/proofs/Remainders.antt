-- What is left after the whole multiples of a divisor is what Rust's `rem_euclid` gives.
use Rattle.std.proofs.Common.{◌≡◌, ℕ, zero, suc, ◌<◌, ◌≤◌, ◌∙◌, sym, arith}
use Rattle.std.specs.Prelude.{ℤ, pos, negsuc, neg_ℤ, ◌<ℤ◌, unsigned_abs}
use Rattle.std.specs.Int.{int_rem_euclid}
use Rattle.std.proofs.lemmas.Int.{ints}
use Rattle.std.proofs.lemmas.Bool.Decides.{nat_tests}
use Rattle.std.proofs.lemmas.Nat.{mod_below}
use Rattle.scratch_number.specs.declared.number.Num.{Num}
use Rattle.scratch_number.specs.declared.number.Num.TheVariants.{Fixed}
use Rattle.scratch_number.specs.Number.{number}
use Rattle.scratch_number.specs.Arithmetic.{remainder, finite_modulo}

-- a remainder is less than its divisor
rem_size : (a : ℤ) (d : ℕ) → 0 < d → unsigned_abs (int_rem_euclid a (pos d)) < d
rem_size (pos a) d h = mod_below a d h
rem_size (negsuc a) d h = omega arith

pub remainder_down : (a : ℤ) (d : ℕ) → remainder a (negsuc d) ≡ neg_ℤ (int_rem_euclid (neg_ℤ a) (pos (suc d)))
remainder_down (pos zero) d = omega (arith, ints)
remainder_down (pos (suc a)) d = omega (arith, ints)
remainder_down (negsuc a) d = omega (arith, ints)

remainder_down-small : (a : ℤ) (b : ℕ) → suc b ≤ 9000000000000000000 → unsigned_abs (remainder a (negsuc b)) ≤ 9000000000000000000
remainder_down-small a b small = rw (remainder_down a b) (omega (arith, ints, rem_size (neg_ℤ a) (suc b) (omega arith)))

-- a finite number is the number of its millionths
pub number-small : (z : ℤ) → unsigned_abs z ≤ 9000000000000000000 → number z ≡ Fixed z
number-small (pos n) h = grind (arith, nat_tests)
number-small (negsuc n) h = grind (arith, nat_tests)

-- the remainder by a divisor below 0, as the code computes it
pub finite_modulo-down : (r : Num) (m x y a b : ℤ) → r ≡ number m → x ≡ neg_ℤ a → y ≡ neg_ℤ b → b <ℤ pos 0 → unsigned_abs b ≤ 9000000000000000000 → m ≡ neg_ℤ (int_rem_euclid x y) → r ≡ finite_modulo a b
finite_modulo-down r m x y a (pos b) i p q below small e = absurd (omega (arith, ints, below))
finite_modulo-down r m x y a (negsuc b) i p q below small e =
    let known : m ≡ remainder a (negsuc b) = rw (e, p, q) (sym (remainder_down a b)) in
    i ∙ rw known (number-small _ (remainder_down-small a b small))
