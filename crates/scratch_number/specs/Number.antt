-- The profile's numbers: whole millionths of at most 9·10^18 in size, two infinities and not-a-number.
use Rattle.std.specs.Prelude.{◌≤◌, ℕ, zero, suc, ◌+◌, ◌*◌, ◌/◌, ℤ, pos, negsuc, neg_ℤ, nat_le, unsigned_abs, if◌then◌else◌, Option, Some, None}
use Rattle.std.specs.Ordering.{int_cmp}
use Rattle.std.specs.declared.cmp.Ordering.{Ordering}
use Rattle.std.specs.declared.cmp.Ordering.TheVariants.{Less, Equal, Greater}
use Rattle.scratch_number.specs.declared.number.Num.{Num}
use Rattle.scratch_number.specs.declared.number.Num.TheVariants.{Fixed, Inf, NegInf, Nan}
pub use Rattle.scratch_number.specs.Limit.{limit}

-- the number of z millionths: past the limit it is the infinity of its sign
abbrev pub number : ℤ → Num
number (pos n) = if nat_le n limit then Fixed (pos n) else Inf
number (negsuc n) = if nat_le (suc n) limit then Fixed (negsuc n) else NegInf

-- n / d rounded to a whole number, halves up, for d not 0
abbrev pub near_size : ℕ → ℕ → ℕ
near_size n d = (2 * n + d) / (2 * d)

-- n / d rounded to a whole number, halves away from zero, for d not 0
abbrev pub near : ℤ → ℤ → ℤ
near (pos n) (pos d) = pos (near_size n d)
near (pos n) (negsuc d) = neg_ℤ (pos (near_size n (suc d)))
near (negsuc n) (pos d) = neg_ℤ (pos (near_size (suc n) d))
near (negsuc n) (negsuc d) = pos (near_size (suc n) (suc d))

-- n / d rounded down to a whole number, for d above 0
abbrev pub floor_by : ℤ → ℕ → ℤ
floor_by (pos n) d = pos (n / d)
floor_by (negsuc n) d = negsuc (n / d)

-- n / d rounded down to a whole number, for d not 0
abbrev pub floor_quotient : ℤ → ℤ → ℤ
floor_quotient n (pos d) = floor_by n d
floor_quotient n (negsuc d) = floor_by (neg_ℤ n) (suc d)

-- the infinity that has the sign of z; at 0 there is none
abbrev pub infinity_by : ℤ → Num
infinity_by (pos zero) = Nan
infinity_by (pos (suc n)) = Inf
infinity_by (negsuc n) = NegInf

-- the number of the opposite sign
abbrev pub negated : Num → Num
negated (Fixed z) = Fixed (neg_ℤ z)
negated Inf = NegInf
negated NegInf = Inf
negated Nan = Nan

-- which of two numbers is less; not-a-number is in no order
abbrev pub order : Num → Num → Option Ordering
order (Fixed a) (Fixed b) = Some (int_cmp a b)
order (Fixed a) Inf = Some Less
order (Fixed a) NegInf = Some Greater
order (Fixed a) Nan = None
order Inf (Fixed b) = Some Greater
order Inf Inf = Some Equal
order Inf NegInf = Some Greater
order Inf Nan = None
order NegInf (Fixed b) = Some Less
order NegInf Inf = Some Less
order NegInf NegInf = Some Equal
order NegInf Nan = None
order Nan b = None

-- a number that is finite is at most the limit in size, as each number of the program is
abbrev pub IsWithin : Num → Type 0
IsWithin (Fixed z) = unsigned_abs z ≤ limit
IsWithin Inf = Unit {0}
IsWithin NegInf = Unit {0}
IsWithin Nan = Unit {0}
