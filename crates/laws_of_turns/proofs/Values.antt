-- What reporters give, and the value of every expression, is within the limit.
use Rattle.std.proofs.Common.{ℕ, ◌+◌, ◌-◌, ◌*◌, ◌^◌, Bool, true, false, if◌then◌else◌, List, [], ◌∷◌, ◌++◌, length, Option, Some, None}
use Rattle.std.specs.Prelude.{ℤ, pos, ◌+ℤ◌, ◌-ℤ◌, ◌*ℤ◌, IfSome, position, bytes_eq, codes, nat_le, ◌==◌, ◌&&◌, ◌||◌, chars, slice_get, find}
use Rattle.std.specs.Option.{option_and_then}
use Rattle.std.specs.declared.cmp.Ordering.{Ordering}
use Rattle.std.specs.declared.cmp.Ordering.TheVariants.{Less, Equal, Greater}
use Rattle.opcode_table.specs.declared.opcode.Opcode.{Opcode}
use Rattle.opcode_table.specs.declared.opcode.Opcode.TheVariants.{OperatorAdd, OperatorSubtract, OperatorMultiply, OperatorDivide, OperatorMod, OperatorRandom, OperatorGt, OperatorLt, OperatorEquals, OperatorAnd, OperatorOr, OperatorNot, OperatorJoin, OperatorLetterOf, OperatorLength, OperatorContains, OperatorRound, OperatorMathOp, DataVariable, DataListContents, DataItemOfList, DataItemNumOfList, DataLengthOfList, DataListContainsItem, ArgumentReporterStringNumber, ArgumentReporterBoolean, MotionXPosition, MotionYPosition, MotionDirection, LooksCostumeNumberName, LooksBackdropNumberName, LooksSize, SoundVolume, SensingTimer, SensingMouseX, SensingMouseY, SensingMouseDown, SensingAnswer, SensingKeyPressed, SensingDistanceTo, SensingOf}
use Rattle.scratch_number.specs.declared.number.Num.{Num}
use Rattle.scratch_number.specs.declared.number.Num.TheVariants.{Fixed, Inf, NegInf, Nan}
use Rattle.scratch_number.specs.Number.{IsWithin, floor_by, order}
use Rattle.scratch_number.specs.Arithmetic.{add, sub, mul, million}
use Rattle.scratch_values.specs.declared.value.Value.{Value}
use Rattle.scratch_values.specs.declared.value.Value.TheVariants.{Number, Text}
use Rattle.scratch_values.specs.declared.index.Index.{Index}
use Rattle.scratch_values.specs.declared.index.Index.TheVariants.{All, At, Invalid}
use Rattle.scratch_values.specs.declared.names.VarRef.{VarRef}
use Rattle.scratch_values.specs.Casts.{number as cast, zero_number}
use Rattle.scratch_values.specs.Folding.{folded}
use Rattle.scratch_values.specs.Longest.{longest}
use Rattle.scratch_values.specs.Named.{Arguments, item_named}
use Rattle.machine_spec.specs.Outcome.{Outcome, Goes, TooLong, IfGoes, then_do}
use Rattle.machine_spec.specs.Words.{Words, Drawn, undrawn, made_of, draw}
use Rattle.machine_spec.specs.Numbers.{whole}
use Rattle.machine_spec.specs.Script.{Expression, Constant, Variable, Contents, Operator, Expressions, NoInput, AndInput}
use Rattle.machine_spec.specs.Program.{Records, record_at, no_target, sprite_named}
use Rattle.machine_spec.specs.declared.instance.Instance.{Instance}
use Rattle.machine_spec.specs.declared.variables.Store.{Store}
use Rattle.machine_spec.specs.Stores.{Variables, Devices, live, instance_at, no_instance, record_of, is_on_stage, store_at, owner_of, index_of, value_in, items_in, value_of, items_of, elapsed}
use Rattle.machine_spec.specs.Texts.{text_value, contents_text}
use Rattle.machine_spec.specs.Random.{between_bounds, picked, picked_by, looks_whole, pick_random, indexed}
use Rattle.machine_spec.specs.View.{View, value_at, number_at, text_at, field_at, variable_at}
use Rattle.machine_spec.specs.Sensing.{own, stage_of, sprite, distance, distance_to_sprite, distance_to, costume_number, number_or_name, variable_at_some, common_property, stage_property, sprite_property, property_by, property_of}
use Rattle.machine_spec.specs.Reporters.{mathop, item_at, place_from_one, is_equal, variable, items, parameter, is_number, plain, reported}
use Rattle.machine_spec.specs.Evaluate.{value, values}
use Rattle.laws_of_threads.specs.Lists.{Each}
use Rattle.laws_of_threads.proofs.RowFits.{goes_then, goes_any}
use Rattle.laws_of_turns.specs.Within.{IsValueWithin, AreParamsWithin, IsInstanceWithin, IsStoreWithin, IsTargetWithin, IsExpressionWithin, AreInputsWithin}
use Rattle.laws_of_turns.proofs.Numbers.{if_within, number_within, add_within, sub_within, mul_within, div_within, modulo_within, floor_within, ceiling_within, round_within, abs_within, sqrt_within, sin_within, cos_within, tan_within, asin_within, acos_within, atan_within, zero_within, cast_within}
use Rattle.laws_of_turns.proofs.Lists.{if_has, unwrap_has, found_has, got_has, index_has, named_has}

-- what an evaluation sees
pub record IsViewWithin (v : View) : Type 0 where
  pub records : Each IsTargetWithin v.records.targets
  pub targets : Each IsInstanceWithin v.targets
  pub stores : Each IsStoreWithin v.variables.stores
  pub params : AreParamsWithin v.params

-- the values of the inputs of a block
abbrev pub AreArgumentsWithin : Arguments → Type 0
AreArgumentsWithin a = AreParamsWithin a.values

pub value_at_within : (name : List ℕ) (a : Arguments) → AreArgumentsWithin a → IsValueWithin (value_at name a)
value_at_within name a h = unwrap_has IsValueWithin (item_named name a.values) (Number zero_number) (named_has IsValueWithin name a.values h) zero_within

pub number_at_within : (name : List ℕ) (a : Arguments) → AreArgumentsWithin a → IsWithin (number_at name a)
number_at_within name a h = cast_within (value_at name a) (value_at_within name a h)

-- What is found in the stores

no_instance_within : IsInstanceWithin no_instance
no_instance_within = record { x = zero_within; y = zero_within; direction = zero_within; size = zero_within }

pub instance_within : (n : ℕ) (is : List Instance) → Each IsInstanceWithin is → IsInstanceWithin (instance_at n is)
instance_within n is h = unwrap_has IsInstanceWithin (live n is) no_instance (found_has IsInstanceWithin _ is h) no_instance_within

no_target_within : IsTargetWithin no_target
no_target_within = record { x = zero_within; y = zero_within; direction = zero_within; size = zero_within; volume = zero_within; variables = tt; lists = tt }

record_within : (k : ℕ) (records : Records) → Each IsTargetWithin records.targets → IsTargetWithin (record_at k records)
record_within k records h = unwrap_has IsTargetWithin (slice_get records.targets k) no_target (got_has IsTargetWithin records.targets k h) no_target_within

pub store_within : (n : ℕ) (ss : List Store) → Each IsStoreWithin ss → IsStoreWithin (store_at n ss)
store_within n ss h = unwrap_has IsStoreWithin (find _ ss) _ (found_has IsStoreWithin _ ss h) (record { values = tt; lists = tt })

value_in_within : (n k : ℕ) (vs : Variables) → Each IsStoreWithin vs.stores → IsValueWithin (value_in n k vs)
value_in_within n k vs h = unwrap_has IsValueWithin (slice_get (store_at n vs.stores).values k) (Number zero_number) (got_has IsValueWithin (store_at n vs.stores).values k (store_within n vs.stores h).values) zero_within

items_in_within : (n k : ℕ) (vs : Variables) → Each IsStoreWithin vs.stores → Each IsValueWithin (items_in n k vs)
items_in_within n k vs h = unwrap_has (Each IsValueWithin) (slice_get (store_at n vs.stores).lists k) [] (got_has (Each IsValueWithin) (store_at n vs.stores).lists k (store_within n vs.stores h).lists) tt

pub value_of_within : (ref : VarRef) (here : ℕ) (records : Records) (vs : Variables) → Each IsStoreWithin vs.stores → IsValueWithin (value_of ref here records vs)
value_of_within ref here records vs h = value_in_within (owner_of ref here records) (index_of ref) vs h

pub items_of_within : (ref : VarRef) (here : ℕ) (records : Records) (vs : Variables) → Each IsStoreWithin vs.stores → Each IsValueWithin (items_of ref here records vs)
items_of_within ref here records vs h = items_in_within (owner_of ref here records) (index_of ref) vs h

-- Operators

pub whole_within : (z : ℤ) → IsWithin (whole z)
whole_within z = number_within (z *ℤ million)

pub elapsed_within : (start : ℕ) (d : Devices) → IsWithin (elapsed start d)
elapsed_within start d = number_within (pos ((d.clock - start) * 1000))

mathop_within : (name : List ℕ) (n : Num) → IsWithin n → IsWithin (mathop name n)
mathop_within name n h =
    if_within (bytes_eq name (codes "abs")) _ _ (abs_within n h)
    (if_within (bytes_eq name (codes "floor")) _ _ (floor_within n h)
    (if_within (bytes_eq name (codes "ceiling")) _ _ (ceiling_within n h)
    (if_within (bytes_eq name (codes "sqrt")) _ _ (sqrt_within n)
    (if_within (bytes_eq name (codes "sin")) _ _ (sin_within n)
    (if_within (bytes_eq name (codes "cos")) _ _ (cos_within n)
    (if_within (bytes_eq name (codes "tan")) _ _ (tan_within n)
    (if_within (bytes_eq name (codes "asin")) _ _ (asin_within n)
    (if_within (bytes_eq name (codes "acos")) _ _ (acos_within n)
    (if_within (bytes_eq name (codes "atan")) _ _ (atan_within n) zero_within)))))))))

item_within : (i : Index) (xs : List Value) → Each IsValueWithin xs → IsValueWithin (item_at i xs)
item_within All xs h = tt
item_within (At n) xs h = index_has IsValueWithin xs (n - 1) (Text []) h tt
item_within Invalid xs h = tt

place_within : (o : Option ℕ) → IsWithin (place_from_one o)
place_within None = zero_within
place_within (Some k) = whole_within (pos (k + 1))

-- Sensing

distance_within : (dx dy : Num) → IsWithin (distance dx dy)
distance_within dx dy = sqrt_within (add (mul dx dx) (mul dy dy))

to_sprite_within : (o : Option Instance) (i : Instance) → IsWithin (distance_to_sprite o i)
to_sprite_within None i = whole_within (pos 10000)
to_sprite_within (Some j) i = distance_within (sub j.x i.x) (sub j.y i.y)

distance_to_within : (t : List ℕ) (v : View) → IsWithin (distance_to t v)
distance_to_within t v =
    if_within (is_on_stage (own v) v.records) _ _ (whole_within (pos 10000))
    (if_within (bytes_eq t (codes "_mouse_")) _ _ (distance_within (sub (whole v.devices.mouse_x) (own v).x) (sub (whole v.devices.mouse_y) (own v).y))
    (to_sprite_within (sprite t v.records v.targets) (own v)))

costume_number_within : (i : Instance) → IsValueWithin (costume_number i)
costume_number_within i = whole_within (pos (i.costume + 1))

number_or_name_within : (b : Bool) (records : Records) (i : Instance) → IsValueWithin (number_or_name b records i)
number_or_name_within true records i = costume_number_within i
number_or_name_within false records i = tt

variable_some_within : (o : Option ℕ) (xs : List Value) → Each IsValueWithin xs → IsValueWithin (variable_at_some o xs)
variable_some_within None xs h = zero_within
variable_some_within (Some k) xs h = index_has IsValueWithin xs k (Number zero_number) h zero_within

sprite_some_within : (o : Option ℕ) (is : List Instance) → Each IsInstanceWithin is → IfSome (option_and_then (λ n. live n is) o) IsInstanceWithin
sprite_some_within None is h = tt
sprite_some_within (Some n) is h = found_has IsInstanceWithin (λ i. i.number == n) is h

pub sprite_found_within : (name : List ℕ) (records : Records) (is : List Instance) → Each IsInstanceWithin is → IfSome (sprite name records is) IsInstanceWithin
sprite_found_within name records is h = sprite_some_within (sprite_named name records) is h

module _ (v : View) (h : IsViewWithin v) where
  common_within : (p : List ℕ) (i : Instance) → IsValueWithin (common_property p i v)
  common_within p i = if_has IsValueWithin (bytes_eq p (codes "volume")) _ _ (record_within i.of v.records h.records).volume
      (variable_some_within (position _ (record_of i v.records).variables) (store_at i.number v.variables.stores).values (store_within i.number v.variables.stores h.stores).values)

  stage_within : (p : List ℕ) (i : Instance) → IsValueWithin (stage_property p i v)
  stage_within p i =
      if_has IsValueWithin (bytes_eq p (codes "background #") || bytes_eq p (codes "backdrop #")) _ _ (costume_number_within i)
      (if_has IsValueWithin (bytes_eq p (codes "backdrop name")) _ _ tt (common_within p i))

  sprite_within : (p : List ℕ) (i : Instance) → IsInstanceWithin i → IsValueWithin (sprite_property p i v)
  sprite_within p i g =
      if_has IsValueWithin (bytes_eq p (codes "x position")) _ _ g.x
      (if_has IsValueWithin (bytes_eq p (codes "y position")) _ _ g.y
      (if_has IsValueWithin (bytes_eq p (codes "direction")) _ _ g.direction
      (if_has IsValueWithin (bytes_eq p (codes "costume #")) _ _ (costume_number_within i)
      (if_has IsValueWithin (bytes_eq p (codes "costume name")) _ _ tt
      (if_has IsValueWithin (bytes_eq p (codes "size")) _ _ g.size (common_within p i))))))

  by_within : (o : Option Instance) (p : List ℕ) → IfSome o IsInstanceWithin → IsValueWithin (property_by o p v)
  by_within None p g = zero_within
  by_within (Some i) p g = sprite_within p i g

  property_within : (p object : List ℕ) → IsValueWithin (property_of p object v)
  property_within p object = if_has IsValueWithin (bytes_eq object (codes "_stage_")) _ _ (stage_within p (stage_of v))
      (by_within (sprite object v.records v.targets) p (sprite_found_within object v.records v.targets h.targets))

  -- Reporters

  own_within : IsInstanceWithin (own v)
  own_within = instance_within v.here v.targets h.targets

  variable_within : (a : Arguments) → IsValueWithin (variable v a)
  variable_within a = value_of_within (variable_at (codes "VARIABLE") a) v.here v.records v.variables h.stores

  items_within : (a : Arguments) → Each IsValueWithin (items v a)
  items_within a = items_of_within (variable_at (codes "LIST") a) v.here v.records v.variables h.stores

  parameter_within : (a : Arguments) → IsValueWithin (parameter a v)
  parameter_within a = unwrap_has IsValueWithin (item_named (field_at (codes "VALUE") a) v.params) (Number zero_number) (named_has IsValueWithin (field_at (codes "VALUE") a) v.params h.params) zero_within

  plain_within : (op : Opcode) (a : Arguments) → AreArgumentsWithin a → IsValueWithin (plain op a v)
  plain_within OperatorAdd a g = add_within (number_at (codes "NUM1") a) (number_at (codes "NUM2") a)
  plain_within OperatorSubtract a g = sub_within (number_at (codes "NUM1") a) (number_at (codes "NUM2") a)
  plain_within OperatorMultiply a g = mul_within (number_at (codes "NUM1") a) (number_at (codes "NUM2") a)
  plain_within OperatorDivide a g = div_within (number_at (codes "NUM1") a) (number_at (codes "NUM2") a)
  plain_within OperatorMod a g = modulo_within (number_at (codes "NUM1") a) (number_at (codes "NUM2") a) (number_at_within (codes "NUM1") a g) (number_at_within (codes "NUM2") a g)
  plain_within OperatorGt a g = tt
  plain_within OperatorLt a g = tt
  plain_within OperatorEquals a g = tt
  plain_within OperatorAnd a g = tt
  plain_within OperatorOr a g = tt
  plain_within OperatorNot a g = tt
  plain_within OperatorLetterOf a g = tt
  plain_within OperatorLength a g = whole_within (pos (length (chars (text_at (codes "STRING") a))))
  plain_within OperatorContains a g = tt
  plain_within OperatorRound a g = round_within (number_at (codes "NUM") a) (number_at_within (codes "NUM") a g)
  plain_within OperatorMathOp a g = mathop_within (folded (field_at (codes "OPERATOR") a)) (number_at (codes "NUM") a) (number_at_within (codes "NUM") a g)
  plain_within DataVariable a g = variable_within a
  plain_within DataItemNumOfList a g = place_within (position (λ i. is_equal i (value_at (codes "ITEM") a)) (items v a))
  plain_within DataLengthOfList a g = whole_within (pos (length (items v a)))
  plain_within DataListContainsItem a g = tt
  plain_within ArgumentReporterStringNumber a g = parameter_within a
  plain_within ArgumentReporterBoolean a g = parameter_within a
  plain_within MotionXPosition a g = own_within.x
  plain_within MotionYPosition a g = own_within.y
  plain_within MotionDirection a g = own_within.direction
  plain_within LooksCostumeNumberName a g = number_or_name_within (is_number a) v.records (own v)
  plain_within LooksBackdropNumberName a g = number_or_name_within (is_number a) v.records (stage_of v)
  plain_within LooksSize a g = round_within (own v).size own_within.size
  plain_within SoundVolume a g = (record_within (own v).of v.records h.records).volume
  plain_within SensingTimer a g = elapsed_within v.devices.timer v.devices
  plain_within SensingMouseX a g = whole_within v.devices.mouse_x
  plain_within SensingMouseY a g = whole_within v.devices.mouse_y
  plain_within SensingMouseDown a g = tt
  plain_within SensingAnswer a g = tt
  plain_within SensingKeyPressed a g = tt
  plain_within SensingDistanceTo a g = distance_to_within (text_at (codes "DISTANCETOMENU") a) v
  plain_within SensingOf a g = property_within (field_at (codes "PROPERTY") a) (text_at (codes "OBJECT") a)
  plain_within op a g = zero_within

abbrev pub IsDrawnWithin : Drawn Value → Type 0
IsDrawnWithin d = IsValueWithin d.value

made_goes : {A B : Type 0} (o : Outcome (Drawn A)) (f : A → B) (P : A → Type 0) (Q : B → Type 0) → IfGoes o (λ d. P d.value) → ((x : A) → P x → Q (f x)) → IfGoes (then_do o (made_of f)) (λ d. Q d.value)
made_goes o f P Q h g = goes_then o (made_of f) (λ d. P d.value) (λ d. Q d.value) h (λ d k. g d.value k)

text_if : (b : Bool) (t : List ℕ) → IfGoes (if b then Goes (Text t) else TooLong (length t)) IsValueWithin
text_if true t = tt
text_if false t = tt

text_goes : (t : List ℕ) (w : Words) → IfGoes (then_do (text_value t) (undrawn w)) IsDrawnWithin
text_goes t w = goes_then (text_value t) (undrawn w) IsValueWithin IsDrawnWithin (text_if (nat_le (length t) longest) t) (λ x h. h)

-- Random numbers

between_within : (b : Bool) (low high : ℤ) (word : ℕ) → IsWithin (between_bounds b low high word)
between_within true low high word = number_within (low +ℤ (million *ℤ floor_by (pos word *ℤ ((high -ℤ low) +ℤ million)) (2 ^ 32 * 1000000)))
between_within false low high word = number_within (low +ℤ floor_by (pos word *ℤ (high -ℤ low)) (2 ^ 32))

abbrev IsPickedWithin : Drawn Num → Type 0
IsPickedWithin d = IsWithin d.value

drawn_goes : {B : Type 0} (w : Words) (f : ℕ → B) (Q : B → Type 0) → ((word : ℕ) → Q (f word)) → IfGoes (then_do (draw w) (made_of f)) (λ d. Q d.value)
drawn_goes w f Q g = goes_any (draw w) (made_of f) (λ d. Q d.value) (λ d. g d.value)

picked_within : (b : Bool) (low high : Num) (w : Words) → IfGoes (picked b low high w) IsPickedWithin
picked_within b (Fixed low) (Fixed high) w = drawn_goes w (between_bounds b low high) IsWithin (between_within b low high)
picked_within b (Fixed low) Inf w = tt
picked_within b (Fixed low) NegInf w = tt
picked_within b (Fixed low) Nan w = tt
picked_within b Inf high w = add_within Inf high
picked_within b NegInf high w = add_within NegInf high
picked_within b Nan high w = add_within Nan high

picked_by_within : (o : Option Ordering) (b : Bool) (x y : Num) (w : Words) → IsWithin x → IfGoes (picked_by o b x y w) IsPickedWithin
picked_by_within (Some Less) b x y w h = picked_within b x y w
picked_by_within (Some Greater) b x y w h = picked_within b y x w
picked_by_within (Some Equal) b x y w h = h
picked_by_within None b x y w h = h

random_within : (from to : Value) (w : Words) → IsValueWithin from → IfGoes (pick_random from to w) IsPickedWithin
random_within from to w h = picked_by_within (order (cast from) (cast to)) (looks_whole from && looks_whole to) (cast from) (cast to) w (cast_within from h)

-- Every expression

module _ (v : View) (h : IsViewWithin v) where
  reported_within : (op : Opcode) (a : Arguments) (w : Words) → AreArgumentsWithin a → IfGoes (reported op a v w) IsDrawnWithin
  reported_within OperatorRandom a w g = made_goes (pick_random (value_at (codes "FROM") a) (value_at (codes "TO") a) w) (λ n. Number n) IsWithin IsValueWithin
      (random_within (value_at (codes "FROM") a) (value_at (codes "TO") a) w (value_at_within (codes "FROM") a g)) (λ n k. k)
  reported_within OperatorJoin a w g = text_goes (text_at (codes "STRING1") a ++ text_at (codes "STRING2") a) w
  reported_within DataListContents a w g = text_goes (contents_text (items v a)) w
  reported_within DataItemOfList a w g = goes_any (indexed (value_at (codes "INDEX") a) (length (items v a)) false w) (made_of (λ i. item_at i (items v a))) IsDrawnWithin
      (λ d. item_within d.value (items v a) (items_within v h a))
  reported_within op a w g = plain_within v h op a g

  mutual
    value_within : (e : Expression) (w : Words) → IsExpressionWithin e → IfGoes (value v e w) IsDrawnWithin
    value_within (Constant x) w g = g
    value_within (Variable ref) w g = value_of_within ref v.here v.records v.variables h.stores
    value_within (Contents ref) w g = text_goes (contents_text (items_of ref v.here v.records v.variables)) w
    value_within (Operator op fields refs inputs) w g = goes_then (values v inputs w) _ (λ d. AreParamsWithin d.value) IsDrawnWithin (values_within inputs w g)
        (λ d k. reported_within op (record { values = d.value; fields = fields; variables = refs }) d.words k)

    pub values_within : (es : Expressions) (w : Words) → AreInputsWithin es → IfGoes (values v es w) (λ d. AreParamsWithin d.value)
    values_within NoInput w g = tt
    values_within (AndInput name e rest) w g = goes_then (value v e w) _ IsDrawnWithin (λ d. AreParamsWithin d.value) (value_within e w g.0)
        (λ d k. made_goes (values v rest d.words) (λ xs. (name, d.value) ∷ xs) AreParamsWithin AreParamsWithin (values_within rest d.words g.1) (λ xs m. (k, m)))
