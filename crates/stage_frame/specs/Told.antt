-- Helper of private functions: the value that is told.
use Rattle.scratch_values.specs.declared.value.Value.{Value}
use Rattle.scratch_values.specs.declared.value.Value.TheVariants as values
use Rattle.stage_frame.specs.declared.told_values.Told.{Told}
use Rattle.stage_frame.specs.declared.told_values.Told.TheVariants.{Held, Number, Text}

abbrev pub told_value : Told → Value
told_value (Held v) = v.now
told_value (Number n) = values.Number n
told_value (Text t) = values.Text t.now
