-- Helper of private functions: whether a number is 0.
use Rattle.std.specs.Prelude.{zero, pos, Bool, true, false}
use Rattle.scratch_number.specs.declared.number.Num.{Num}
use Rattle.scratch_number.specs.declared.number.Num.TheVariants.{Fixed}

abbrev pub is_zero : Num → Bool
is_zero (Fixed (pos zero)) = true
is_zero n = false
