-- What each reporter gives of its arguments, an opcode a line (after scratch-vm, blocks/scratch3_operators.js,
-- scratch3_data.js, scratch3_motion.js, scratch3_looks.js, scratch3_sound.js, scratch3_sensing.js, scratch3_procedures.js).
use Rattle.std.specs.Prelude.{ℕ, ◌+◌, ◌-◌, ◌&&◌, ◌||◌, pos, Bool, false, not, if◌then◌else◌, List, [], ◌++◌, length, bytes_eq, codes, chars, position, slice_index_or, Option, None, Some, unwrap_or}
use Rattle.std.specs.Ordering.{is_eq, is_lt, is_gt}
use Rattle.std.specs.List.{list_any}
use Rattle.opcode_table.specs.declared.opcode.Opcode.{Opcode}
use Rattle.opcode_table.specs.declared.opcode.Opcode.TheVariants.{OperatorAdd, OperatorSubtract, OperatorMultiply, OperatorDivide, OperatorMod, OperatorRandom, OperatorGt, OperatorLt, OperatorEquals, OperatorAnd, OperatorOr, OperatorNot, OperatorJoin, OperatorLetterOf, OperatorLength, OperatorContains, OperatorRound, OperatorMathOp, DataVariable, DataListContents, DataItemOfList, DataItemNumOfList, DataLengthOfList, DataListContainsItem, ArgumentReporterStringNumber, ArgumentReporterBoolean, MotionXPosition, MotionYPosition, MotionDirection, LooksCostumeNumberName, LooksBackdropNumberName, LooksSize, SoundVolume, SensingTimer, SensingMouseX, SensingMouseY, SensingMouseDown, SensingAnswer, SensingKeyPressed, SensingDistanceTo, SensingOf}
use Rattle.scratch_number.specs.declared.number.Num.{Num}
use Rattle.scratch_number.specs.Arithmetic.{add, sub, mul, div, modulo, floor, ceiling, round, abs}
use Rattle.scratch_number.specs.Angles.{sqrt, sin, cos, tan, asin, acos, atan}
use Rattle.scratch_values.specs.declared.value.Value.{Value}
use Rattle.scratch_values.specs.declared.value.Value.TheVariants.{Number, Truth, Text}
use Rattle.scratch_values.specs.declared.index.Index.{Index}
use Rattle.scratch_values.specs.declared.index.Index.TheVariants.{All, At, Invalid}
use Rattle.scratch_values.specs.Casts.{zero_number}
use Rattle.scratch_values.specs.Comparison.{compare, folded_of}
use Rattle.scratch_values.specs.Folding.{folded}
use Rattle.scratch_values.specs.Index.{place_of}
use Rattle.scratch_values.specs.Named.{item_named, Arguments}
use Rattle.machine_spec.specs.Outcome.{Outcome, then_do}
use Rattle.machine_spec.specs.Words.{Words, Drawn, undrawn, made_of}
use Rattle.machine_spec.specs.Texts.{text_value, contents_text, letter_at, has_part}
use Rattle.machine_spec.specs.Random.{pick_random, indexed}
use Rattle.machine_spec.specs.Stores.{record_of, items_of, value_of, elapsed}
use Rattle.machine_spec.specs.View.{View, value_at, number_at, text_at, truth_at, field_at, variable_at}
use Rattle.machine_spec.specs.Numbers.{whole}
use Rattle.machine_spec.specs.Sensing.{own, stage_of, key_pressed, distance_to, property_of, number_or_name}

-- the function of a folded name; another name gives 0
abbrev pub mathop : List ℕ → Num → Num
mathop name n =
    if bytes_eq name (codes "abs") then abs n
    else (if bytes_eq name (codes "floor") then floor n
    else (if bytes_eq name (codes "ceiling") then ceiling n
    else (if bytes_eq name (codes "sqrt") then sqrt n
    else (if bytes_eq name (codes "sin") then sin n
    else (if bytes_eq name (codes "cos") then cos n
    else (if bytes_eq name (codes "tan") then tan n
    else (if bytes_eq name (codes "asin") then asin n
    else (if bytes_eq name (codes "acos") then acos n
    else (if bytes_eq name (codes "atan") then atan n
    else zero_number)))))))))

-- an item of a list; no place gives the empty text
abbrev pub item_at : Index → List Value → Value
item_at All items = Text []
item_at (At n) items = slice_index_or items (n - 1) (Text [])
item_at Invalid items = Text []

-- the first place of an item that is equal, from 1, and 0 where there is none
abbrev pub place_from_one : Option ℕ → Num
place_from_one None = zero_number
place_from_one (Some k) = whole (pos (k + 1))

abbrev pub is_equal : Value → Value → Bool
is_equal a b = is_eq (compare a b)

abbrev pub place_of_item : Value → List Value → Num
place_of_item v items = place_from_one (position (λ i. is_equal i v) items)

-- the value of the variable and the items of the list that a block names
abbrev pub variable : View → Arguments → Value
variable v a = value_of (variable_at (codes "VARIABLE") a) v.here v.records v.variables

abbrev pub items : View → Arguments → List Value
items v a = items_of (variable_at (codes "LIST") a) v.here v.records v.variables

-- the parameter of that name, and 0 where there is none
abbrev pub parameter : Arguments → View → Value
parameter a v = unwrap_or (item_named (field_at (codes "VALUE") a) v.params) (Number zero_number)

-- the two numbers and the two sides of an operator
abbrev pub both_numbers : (Num → Num → Num) → Arguments → Value
both_numbers f a = Number (f (number_at (codes "NUM1") a) (number_at (codes "NUM2") a))

abbrev pub truths : (Bool → Bool → Bool) → Arguments → Value
truths f a = Truth (f (truth_at (codes "OPERAND1") a) (truth_at (codes "OPERAND2") a))

abbrev pub is_number : Arguments → Bool
is_number a = bytes_eq (field_at (codes "NUMBER_NAME") a) (codes "number")

abbrev pub letter : List ℕ → Num → Value
letter t n = Text (letter_at (place_of n (length (chars t))) t)

-- the reporters that draw no word and make no text that may be too long
abbrev pub plain : Opcode → Arguments → View → Value
plain OperatorAdd a v = both_numbers add a
plain OperatorSubtract a v = both_numbers sub a
plain OperatorMultiply a v = both_numbers mul a
plain OperatorDivide a v = both_numbers div a
plain OperatorMod a v = both_numbers modulo a
plain OperatorGt a v = Truth (is_gt (compare (value_at (codes "OPERAND1") a) (value_at (codes "OPERAND2") a)))
plain OperatorLt a v = Truth (is_lt (compare (value_at (codes "OPERAND1") a) (value_at (codes "OPERAND2") a)))
plain OperatorEquals a v = Truth (is_equal (value_at (codes "OPERAND1") a) (value_at (codes "OPERAND2") a))
plain OperatorAnd a v = truths (λ b c. b && c) a
plain OperatorOr a v = truths (λ b c. b || c) a
plain OperatorNot a v = Truth (not (truth_at (codes "OPERAND") a))
plain OperatorLetterOf a v = letter (text_at (codes "STRING") a) (number_at (codes "LETTER") a)
plain OperatorLength a v = Number (whole (pos (length (chars (text_at (codes "STRING") a)))))
plain OperatorContains a v = Truth (has_part (folded_of (value_at (codes "STRING1") a)) (folded_of (value_at (codes "STRING2") a)))
plain OperatorRound a v = Number (round (number_at (codes "NUM") a))
plain OperatorMathOp a v = Number (mathop (folded (field_at (codes "OPERATOR") a)) (number_at (codes "NUM") a))
plain DataVariable a v = variable v a
plain DataItemNumOfList a v = Number (place_of_item (value_at (codes "ITEM") a) (items v a))
plain DataLengthOfList a v = Number (whole (pos (length (items v a))))
plain DataListContainsItem a v = Truth (list_any (λ i. is_equal i (value_at (codes "ITEM") a)) (items v a))
plain ArgumentReporterStringNumber a v = parameter a v
plain ArgumentReporterBoolean a v = parameter a v
plain MotionXPosition a v = Number (own v).x
plain MotionYPosition a v = Number (own v).y
plain MotionDirection a v = Number (own v).direction
plain LooksCostumeNumberName a v = number_or_name (is_number a) v.records (own v)
plain LooksBackdropNumberName a v = number_or_name (is_number a) v.records (stage_of v)
plain LooksSize a v = Number (round (own v).size)
plain SoundVolume a v = Number (record_of (own v) v.records).volume
plain SensingTimer a v = Number (elapsed v.devices.timer v.devices)
plain SensingMouseX a v = Number (whole v.devices.mouse_x)
plain SensingMouseY a v = Number (whole v.devices.mouse_y)
plain SensingMouseDown a v = Truth v.devices.button
plain SensingAnswer a v = Text v.devices.answer
plain SensingKeyPressed a v = Truth (key_pressed (text_at (codes "KEY_OPTION") a) v.devices)
plain SensingDistanceTo a v = Number (distance_to (text_at (codes "DISTANCETOMENU") a) v)
plain SensingOf a v = property_of (field_at (codes "PROPERTY") a) (text_at (codes "OBJECT") a) v
plain op a v = Number zero_number

-- what a reporter gives; the first four take words or make texts
abbrev pub reported : Opcode → Arguments → View → Words → Outcome (Drawn Value)
reported OperatorRandom a v w = then_do (pick_random (value_at (codes "FROM") a) (value_at (codes "TO") a) w) (made_of (λ n. Number n))
reported OperatorJoin a v w = then_do (text_value (text_at (codes "STRING1") a ++ text_at (codes "STRING2") a)) (undrawn w)
reported DataListContents a v w = then_do (text_value (contents_text (items v a))) (undrawn w)
reported DataItemOfList a v w = then_do (indexed (value_at (codes "INDEX") a) (length (items v a)) false w) (made_of (λ i. item_at i (items v a)))
reported op a v w = undrawn w (plain op a v)
