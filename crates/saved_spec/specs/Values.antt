-- Numbers and values of a saved run (docs/formats.md, section 5).
use Rattle.std.specs.Prelude.{◌∷◌, [], codes}
use Rattle.serde_json.specs.Data.{Data, boolean, string}
use Rattle.scratch_number.specs.declared.number.Num.{Num}
use Rattle.scratch_number.specs.declared.number.Num.TheVariants.{Fixed, Inf, NegInf, Nan}
use Rattle.scratch_values.specs.declared.value.Value.{Value}
use Rattle.scratch_values.specs.declared.value.Value.TheVariants.{Number, Truth, Text}
use Rattle.saved_spec.specs.Rows.{signed, row}

-- whole millionths, or the name of what is not finite
abbrev pub num : Num → Data
num (Fixed millionths) = signed millionths
num Inf = string (codes "inf")
num NegInf = string (codes "-inf")
num Nan = string (codes "nan")

-- a number stands in a list, so that it is no text
abbrev pub value : Value → Data
value (Number n) = row (num n ∷ [])
value (Truth b) = boolean b
value (Text t) = string t
