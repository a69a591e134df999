-- Whole numbers, bounds and directions.
use Rattle.std.specs.Prelude.{◌/◌, suc, ℤ, pos, negsuc, neg_ℤ, ◌+ℤ◌, ◌-ℤ◌, ◌*ℤ◌, if◌then◌else◌}
use Rattle.scratch_number.specs.declared.number.Num.{Num}
use Rattle.scratch_number.specs.declared.number.Num.TheVariants.{Fixed, Inf, NegInf, Nan}
use Rattle.scratch_number.specs.Number.{number, floor_by}
use Rattle.scratch_number.specs.Arithmetic.{million}
use Rattle.machine_spec.specs.Stores.{less}

-- a whole number
abbrev pub whole : ℤ → Num
whole z = number (z *ℤ million)

-- the whole part of millionths, toward zero
abbrev pub without_fraction : ℤ → ℤ
without_fraction (pos n) = pos (n / 1000000)
without_fraction (negsuc n) = neg_ℤ (pos (suc n / 1000000))

-- n kept in low to high
abbrev pub kept_in : Num → Num → Num → Num
kept_in low high n = if less n low then low else (if less high n then high else n)

-- a direction d becomes d − 360·⌊(d + 179) / 360⌋; one that is not finite changes nothing (scratch-vm, util/math-util.js,
-- wrapClamp, from −179 to 180)
abbrev pub direction_after : Num → Num → Num
direction_after (Fixed d) now = number (d -ℤ (pos 360000000 *ℤ floor_by (d +ℤ pos 179000000) 360000000))
direction_after Inf now = now
direction_after NegInf now = now
direction_after Nan now = now
