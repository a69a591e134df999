-- Values as a project file has them, whose texts may be longer than those of a run.
use Rattle.std.specs.Prelude.{◌≤◌, length}
use Rattle.scratch_values.specs.declared.value.Value.{Value}
use Rattle.scratch_values.specs.declared.value.Value.TheVariants.{Number, Truth, Text}
use Rattle.scratch_values.specs.Longest.{longest}
use Rattle.project_spec.specs.declared.values.FileValue.{FileValue}
use Rattle.project_spec.specs.declared.values.FileValue.TheVariants as file

-- the value
abbrev pub value_in : FileValue → Value
value_in (file.Number n) = Number n
value_in (file.Truth b) = Truth b
value_in (file.Text t) = Text t

-- its text, where it is one, is short enough for a run
abbrev pub IsShort : Value → Type 0
IsShort (Number n) = Unit {0}
IsShort (Truth b) = Unit {0}
IsShort (Text t) = length t ≤ longest
