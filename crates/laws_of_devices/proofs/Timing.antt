-- Times that may come.
use Rattle.std.proofs.Common.{◌≡◌, ℕ, ◌*◌, Bool, true, false, if◌then◌else◌, refl, arith}
use Rattle.std.proofs.lemmas.Bool.Decides.{nat_tests}
use Rattle.std.specs.Prelude.{pos, negsuc, nat_le, int_le, ◌+◌}
use Rattle.scratch_number.specs.Arithmetic.{add}
use Rattle.scratch_number.specs.Limit.{limit}
use Rattle.scratch_number.specs.Number.{number}
use Rattle.scratch_number.specs.declared.number.Num.{Num}
use Rattle.scratch_number.specs.declared.number.Num.TheVariants.{Fixed, Inf, NegInf, Nan}
use Rattle.scratch_values.specs.Casts.{zero_number}
use Rattle.machine_spec.specs.Stores.{seconds, from_zero, less}
use Rattle.laws_of_devices.specs.Devices.{IsDue}

not_negative : (n : ℕ) → int_le (pos 0) (pos n) ≡ true
not_negative n = grind (arith, nat_tests)

number_by : (b : Bool) (n : ℕ) → IsDue (if b then Fixed (pos n) else Inf)
number_by true n = not_negative n
number_by false n = tt

number_due : (n : ℕ) → IsDue (number (pos n))
number_due n = number_by (nat_le n limit) n

pub sum_due : (a b : Num) → IsDue a → IsDue b → IsDue (add a b)
sum_due (Fixed (pos m)) (Fixed (pos n)) h k = number_due (m + n)
sum_due (Fixed (pos m)) (Fixed (negsuc n)) h k = absurd (cc k)
sum_due (Fixed (pos m)) Inf h k = tt
sum_due (Fixed (pos m)) NegInf h k = absurd k
sum_due (Fixed (pos m)) Nan h k = absurd k
sum_due (Fixed (negsuc m)) b h k = absurd (cc h)
sum_due Inf (Fixed b) h k = tt
sum_due Inf Inf h k = tt
sum_due Inf NegInf h k = absurd k
sum_due Inf Nan h k = absurd k
sum_due NegInf b h k = absurd h
sum_due Nan b h k = absurd h

pub seconds_due : (ms : ℕ) → IsDue (seconds ms)
seconds_due ms = number_due (ms * 1000)

above_due : (n : Num) → less zero_number n ≡ true → IsDue n
above_due (Fixed (pos n)) h = not_negative n
above_due (Fixed (negsuc n)) h = absurd (cc h)
above_due Inf h = tt
above_due NegInf h = absurd (cc h)
above_due Nan h = absurd (cc h)

zero_by : (b : Bool) (n : Num) → less zero_number n ≡ b → IsDue (if b then n else zero_number)
zero_by true n h = above_due n h
zero_by false n h = refl

pub from_zero_due : (n : Num) → IsDue (from_zero n)
from_zero_due n = zero_by (less zero_number n) n refl
