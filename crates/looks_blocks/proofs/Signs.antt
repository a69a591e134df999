-- Hundredths with a sign.
use Rattle.std.proofs.Common.{◌≡◌, ℕ, zero, suc, ◌+◌, ◌/◌, ◌<◌, ◌≤◌, ◌∷◌, ◌++◌, ◌%◌, List, codes, ap, ap₂, refl, arith}
use Rattle.std.specs.Fmt.{decimal}
use Rattle.std.proofs.lemmas.Fmt.{decimal_digit}
use Rattle.std.specs.Prelude.{ℤ, pos, negsuc, neg_ℤ, ◌<ℤ◌, ◌≤ℤ◌, unsigned_abs}
use Rattle.std.proofs.lemmas.Int.{ints}
use Rattle.scratch_number.specs.Number.{near, near_size}
use Rattle.machine_spec.specs.Texts.{hundredths, signed_hundredths}

minus : (n : ℕ) → 0 < n → signed_hundredths (neg_ℤ (pos n)) ≡ 45 ∷ hundredths n
minus zero h = absurd (omega arith)
minus (suc n) h = let e : n + 1 ≡ suc n = omega arith in ap (λ m. 45 ∷ hundredths m) e

-- below 0, where it is at least a hundredth in size
pub hundredths_below : (z : ℤ) → z <ℤ pos 0 → 10000 ≤ unsigned_abs z → signed_hundredths (near z (pos 10000)) ≡ 45 ∷ hundredths (near_size (unsigned_abs z) 10000)
hundredths_below (pos n) low size = absurd (omega (arith, ints, low))
hundredths_below (negsuc n) low size = minus (near_size (suc n) 10000) (omega arith)

pub hundredths_above : (z : ℤ) → pos 0 ≤ℤ z → signed_hundredths (near z (pos 10000)) ≡ hundredths (near_size (unsigned_abs z) 10000)
hundredths_above (pos n) low = refl
hundredths_above (negsuc n) low = absurd (omega (arith, ints, low))

-- the parts that are written
pub written_parts : (sign : List ℕ) (n : ℕ) → sign ++ (decimal (n / 100) ++ (codes "." ++ (decimal (n % 100 / 10) ++ decimal (n % 10)))) ≡ sign ++ hundredths n
written_parts sign n =
    ap₂ (λ (tenth rest : List ℕ). sign ++ (decimal (n / 100) ++ (46 ∷ (tenth ++ rest)))) (decimal_digit (n % 100 / 10) (omega arith)) (decimal_digit (n % 10) (omega arith))
