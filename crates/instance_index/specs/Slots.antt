-- The slots of a list by the instance of each: `ofs` has the instance of each slot, in order.
use Rattle.std.specs.Prelude.{ℕ, zero, suc, ◌==◌, Bool, false, if◌then◌else◌, List, Option, Some, None, slice_get}

-- what stands in a slot is of the instance
abbrev pub is_of : (of : ℕ) → Option ℕ → Bool
is_of of None = false
is_of of (Some own) = own == of

-- the last slot below n that is of the instance; None where there is none
abbrev pub last_below : (of : ℕ) → List ℕ → (n : ℕ) → Option ℕ
last_below of ofs zero = None
last_below of ofs (suc n) = if is_of of (slice_get ofs n) then Some n else last_below of ofs n
