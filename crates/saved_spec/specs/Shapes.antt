-- How the parts of a JSON value are read: each gives what the part tells, or the path of the first part that has not its
-- shape. A path joins the names of members and the places in lists, from 0, by `/`.
use Rattle.std.specs.Prelude.{ℕ, ◌+◌, ◌==◌, nat_le, ℤ, unsigned_abs, List, [], ◌∷◌, length, slice_get, Bool, Option, Some, None, option_map, option_and_then, Ok, codes, if◌then◌else◌}
use Rattle.std.specs.Fmt.{decimal}
use Rattle.std.specs.Option.{option_or}
use Rattle.serde_json.specs.Data.{Data, null, boolean, string, Items, no_items, item}
use Rattle.serde_json.specs.Find.{get, as_bool, as_number, as_str, as_array, as_object, as_u64, as_i64}
use Rattle.scratch_number.specs.Limit.{limit}
use Rattle.scratch_number.specs.declared.number.Num.{Num}
use Rattle.scratch_number.specs.declared.number.Num.TheVariants.{Fixed, Inf, NegInf, Nan}
use Rattle.scratch_values.specs.Named.{item_named}
use Rattle.scratch_values.specs.declared.value.Value.{Value}
use Rattle.scratch_values.specs.declared.value.Value.TheVariants.{Number, Truth, Text}
use Rattle.json_shapes.specs.Shapes.{Reader, found, ◌>>=◌}

-- Numbers, truths, texts

-- a whole number from 0, below 2^64
abbrev pub whole : Reader Data ℕ
whole at d = found at (option_and_then as_u64 (as_number d))

-- a whole number of either sign, in 64 bits
abbrev pub signed : Reader Data ℤ
signed at d = found at (option_and_then as_i64 (as_number d))

abbrev pub truth : Reader Data Bool
truth at d = found at (as_bool d)

abbrev pub text : Reader Data (List ℕ)
text at d = found at (as_str d)

-- a text that is one of these words
abbrev pub word : {A : Type 0} → List (List ℕ × A) → Reader Data A
word words at d = found at (option_and_then (λ t. item_named t words) (as_str d))

-- whole millionths of at most 9·10^18 in size
abbrev pub millionths : ℤ → Option Num
millionths z = if nat_le (unsigned_abs z) limit then Some (Fixed z) else None

-- a number of the profile: whole millionths, or the word of what is not finite
abbrev pub num_words : List (List ℕ × Num)
num_words = (codes "inf", Inf) ∷ (codes "-inf", NegInf) ∷ (codes "nan", Nan) ∷ []

abbrev pub num : Reader Data Num
num at d =
    found at (option_or
    (option_and_then (λ t. item_named t num_words) (as_str d))
    (option_and_then millionths (option_and_then as_i64 (as_number d))))

-- Lists

abbrev pub list_of : Items → List Data
list_of no_items = []
list_of (item d ds) = d ∷ list_of ds

abbrev pub items : Reader Data (List Data)
items at d = found at (option_map list_of (as_array d))

-- each item from a place on, in order
abbrev pub each_from : {A : Type 0} → ℕ → Reader Data A → Reader (List Data) (List A)
each_from i read at [] = Ok []
each_from i read at (d ∷ ds) = read (decimal i ∷ at) d >>= (λ a. each_from (i + 1) read at ds >>= (λ more. Ok (a ∷ more)))

-- a list of parts of one shape
abbrev pub each : {A : Type 0} → Reader Data A → Reader Data (List A)
each read at d = items at d >>= each_from 0 read at

-- a list of just so many items
abbrev pub sized : ℕ → Reader (List Data) (List Data)
sized n at ds = found at (if length ds == n then Some ds else None)

abbrev pub row : ℕ → Reader Data (List Data)
row n at d = items at d >>= sized n at

-- the item at a place
abbrev pub part : {A : Type 0} → ℕ → Reader Data A → Reader (List Data) A
part i read at ds = found (decimal i ∷ at) (slice_get ds i) >>= read (decimal i ∷ at)

-- Objects

abbrev pub table : Reader Data Data
table at d = found at (option_map (λ _. d) (as_object d))

-- a member, which has to be there
abbrev pub member : {A : Type 0} → List ℕ → Reader Data A → Reader Data A
member name read at d = found (name ∷ at) (get name d) >>= read (name ∷ at)

-- Values

-- the value of a variable or an item: a text, a truth, or a list of one number
abbrev pub value : Reader Data Value
value at (string t) = Ok (Text t)
value at (boolean b) = Ok (Truth b)
value at d = row 1 at d >>= (λ ds. part 0 num at ds >>= (λ n. Ok (Number n)))

-- null is nothing
abbrev pub if_some : {A : Type 0} → Reader Data A → Reader Data (Option A)
if_some read at null = Ok None
if_some read at d = read at d >>= (λ a. Ok (Some a))
