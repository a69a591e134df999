-- How long a wait can last.
use Rattle.std.proofs.Common.{ap, ◌≡◌, Bool, true, false, if◌then◌else◌, refl, arith}
use Rattle.std.specs.Prelude.{ℕ, zero, suc, pos, negsuc}
use Rattle.std.proofs.lemmas.Bool.Decides.{nat_tests}
use Rattle.scratch_number.specs.declared.number.Num.{Num}
use Rattle.scratch_number.specs.declared.number.Num.TheVariants.{Fixed, Inf, NegInf, Nan}
use Rattle.scratch_values.specs.Casts.{zero_number}
use Rattle.machine_spec.specs.Stores.{less, from_zero}

above_pos : (n : ℕ) → less zero_number (Fixed (pos n)) ≡ true → less (Fixed (pos n)) zero_number ≡ false
above_pos zero h = refl
above_pos (suc n) h = grind (arith, nat_tests)

above_zero : (n : Num) → less zero_number n ≡ true → less n zero_number ≡ false
above_zero (Fixed (pos n)) h = above_pos n h
above_zero (Fixed (negsuc n)) h = absurd (cc h)
above_zero Inf h = refl
above_zero NegInf h = absurd (cc h)
above_zero Nan h = refl

by_bool : (n : Num) (b : Bool) → less zero_number n ≡ b → less (if b then n else zero_number) zero_number ≡ false
by_bool n true h = above_zero n h
by_bool n false h = refl

again_by : (n : Num) (b : Bool) → less zero_number n ≡ b → from_zero (if b then n else zero_number) ≡ (if b then n else zero_number)
again_by n true h = ap (λ c. if c then n else zero_number) h
again_by n false h = refl

-- what is no less than nothing stays so
pub from_zero_again : (n : Num) → from_zero (from_zero n) ≡ from_zero n
from_zero_again n = again_by n (less zero_number n) refl

-- no less than nothing
pub from_zero_least : (n : Num) → less (from_zero n) zero_number ≡ false
from_zero_least n = by_bool n (less zero_number n) refl
