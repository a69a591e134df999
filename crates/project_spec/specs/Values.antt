-- Numbers and values of a project file. A JSON number is the number of its own text.
use Rattle.std.specs.Prelude.{ℕ, List, [], Ok, Err}
use Rattle.project_json.specs.Tree.{Tree, null, truth, number, text, list, object}
use Rattle.scratch_number.specs.declared.number.Num.{Num}
use Rattle.scratch_number.specs.Reading.{number_of}
use Rattle.scratch_values.specs.declared.value.Value.{Value}
use Rattle.scratch_values.specs.declared.value.Value.TheVariants.{Number, Truth, Text}
use Rattle.scratch_values.specs.Casts.{zero_number}
use Rattle.scratch_values.specs.Value.{text_of}
use Rattle.json_shapes.specs.Places.{path}
use Rattle.json_shapes.specs.Shapes.{Reader, ◌>>=◌, digits}

-- a number
abbrev pub num : Reader Tree Num
num at t = digits at t >>= (λ ds. Ok (number_of ds))

-- a value: a text, a truth, a number, or null as 0
abbrev pub value : Reader Tree Value
value at null = Ok (Number zero_number)
value at (truth b) = Ok (Truth b)
value at (number ds) = Ok (Number (number_of ds))
value at (text t) = Ok (Text t)
value at (list ts) = Err (path at)
value at (object ms) = Err (path at)

-- the text of a field: that of a value, and null as the empty text
abbrev pub field_text : Reader Tree (List ℕ)
field_text at null = Ok []
field_text at t = value at t >>= (λ v. Ok (text_of v))
