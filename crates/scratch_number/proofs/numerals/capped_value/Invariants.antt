use Rattle.std.proofs.Common.{◌≡◌, ◌≤◌, min, take}
use Rattle.std.specs.Str.Parse.{digits_value_after}
use Rattle.scratch_number.specs.Reading.{cap}
use Rattle.scratch_number.proofs.numerals.capped_value.Given as goal

abbrev pub invariant-loop-digit : goal.invariant-loop-digit
invariant-loop-digit l = record {
  cut : l.value ≡ min (digits_value_after l.base l.start (take l.digit-index l.digits)) cap;
  within : l.value ≤ cap;
}
