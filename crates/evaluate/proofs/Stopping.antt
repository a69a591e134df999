-- How an evaluation stops: where a text is too long, or no word is left.
use Rattle.std.proofs.Common.{◌≡◌, ℕ, ◌==◌, ◌&&◌, ◌++◌, Bool, true, false, if◌then◌else◌, List, ◌∷◌, length, Option, Some, None, refl, subst}
use Rattle.std.specs.Prelude.{codes, nat_le, slice_get, Result, Ok, Err, IfErr}
use Rattle.std.specs.declared.cmp.Ordering.{Ordering}
use Rattle.std.specs.declared.cmp.Ordering.TheVariants.{Less, Equal, Greater}
use Rattle.opcode_table.specs.declared.opcode.Opcode.{Opcode}
use Rattle.opcode_table.specs.declared.opcode.Opcode.TheVariants.{OperatorRandom, OperatorJoin, DataListContents, DataItemOfList}
use Rattle.scratch_number.specs.Number.{order}
use Rattle.scratch_number.specs.declared.number.Num.{Num}
use Rattle.scratch_number.specs.declared.number.Num.TheVariants.{Fixed}
use Rattle.scratch_values.specs.Args.{arguments}
use Rattle.scratch_values.specs.Casts as casts
use Rattle.scratch_values.specs.Index.{index, needs_word}
use Rattle.scratch_values.specs.Named.{Arguments}
use Rattle.scratch_values.specs.declared.value.Value.{Value}
use Rattle.scratch_values.specs.declared.value.Value.TheVariants.{Number, Text as Text_value}
use Rattle.script_words.specs.declared.stops.CounterKind.TheVariants as counter
use Rattle.script_words.specs.declared.stops.Stop.{Stop}
use Rattle.script_words.specs.declared.stops.Stop.TheVariants.{Stack, Text, Counter, NoMemory}
use Rattle.machine_spec.specs.Evaluate.{value, values}
use Rattle.machine_spec.specs.Outcome.{Outcome, Goes, Full, TooLong, Spent, StopIs, then_do, last_number}
use Rattle.machine_spec.specs.Random.{looks_whole, between_bounds, picked, picked_by, pick_random, indexed}
use Rattle.machine_spec.specs.Reporters.{reported, items, item_at}
use Rattle.machine_spec.specs.Script.{Expression, Constant, Variable, Contents, Operator, Expressions, NoInput, AndInput}
use Rattle.machine_spec.specs.Stores.{items_of}
use Rattle.scratch_values.specs.Longest.{longest}
use Rattle.machine_spec.specs.Texts.{text_value, contents_text}
use Rattle.machine_spec.specs.View.{View as Seen, value_at, text_at}
use Rattle.machine_spec.specs.Words.{Words, Drawn, undrawn, made_of, draw}
use Rattle.project_spec.specs.Trees.{expression, inputs_by}
use Rattle.cached_blocks.specs.Cached.{cached_blocks}
use Rattle.cached_blocks.specs.declared.block.CachedBlock.{CachedBlock}
use Rattle.evaluate.specs.declared.view.View.{View}
use Rattle.evaluate.specs.Seen.{seen, sheet_of, arguments_by, arguments_at, input_values}
use Rattle.evaluate.specs.Stops.{IsOfValuesOrMemory}

-- the limits that an evaluation can meet
abbrev MeetsValues : {A : Type 0} → Outcome A → Type 0
MeetsValues (Goes x) = Unit {0}
MeetsValues Full = ⊥
MeetsValues (TooLong n) = Unit {0}
MeetsValues (Spent which) = which ≡ counter.Words

then_meets : {A B : Type 0} (o : Outcome A) (f : A → Outcome B) → MeetsValues o → ((x : A) → MeetsValues (f x)) → MeetsValues (then_do o f)
then_meets (Goes x) f h k = k x
then_meets Full f h k = absurd h
then_meets (TooLong n) f h k = tt
then_meets (Spent which) f h k = h

made : {A B : Type 0} (f : A → B) (o : Outcome (Drawn A)) → MeetsValues o → MeetsValues (then_do o (made_of f))
made f o h = then_meets o (made_of f) h (λ d. tt)

number_by : {A : Type 0} (b : Bool) (x : A) → MeetsValues (if b then Spent counter.Words else Goes x)
number_by true x = refl
number_by false x = tt

drawn : (w : Words) → MeetsValues (draw w)
drawn w = number_by (w.drawn == last_number) _

value_by : (b : Bool) (t : List ℕ) → MeetsValues (if b then Goes (Text_value t) else TooLong (length t))
value_by true t = tt
value_by false t = tt

text_meets : (t : List ℕ) (w : Words) → MeetsValues (then_do (text_value t) (undrawn w))
text_meets t w = then_meets (text_value t) (undrawn w) (value_by (nat_le (length t) longest) t) (λ x. tt)

picked_meets : (by_whole : Bool) (a b : Num) (w : Words) → MeetsValues (picked by_whole a b w)
picked_meets by_whole (Fixed a) (Fixed b) w = made (between_bounds by_whole a b) (draw w) (drawn w)
picked_meets by_whole a b w = tt

ordered_meets : (o : Option Ordering) (by_whole : Bool) (a b : Num) (w : Words) → MeetsValues (picked_by o by_whole a b w)
ordered_meets (Some Less) by_whole a b w = picked_meets by_whole a b w
ordered_meets (Some Greater) by_whole a b w = picked_meets by_whole b a w
ordered_meets (Some Equal) by_whole a b w = tt
ordered_meets None by_whole a b w = tt

random_meets : (from to : Value) (w : Words) → MeetsValues (pick_random from to w)
random_meets from to w = ordered_meets (order (casts.number from) (casts.number to)) (looks_whole from && looks_whole to) (casts.number from) (casts.number to) w

indexed_by : (c : Bool) (v : Value) (n : ℕ) (all : Bool) (w : Words) → MeetsValues (if c then then_do (draw w) (made_of (index v n all)) else undrawn w (index v n all 0))
indexed_by true v n all w = made (index v n all) (draw w) (drawn w)
indexed_by false v n all w = tt

indexed_meets : (v : Value) (n : ℕ) (all : Bool) (w : Words) → MeetsValues (indexed v n all w)
indexed_meets v n all w = indexed_by (needs_word v n) v n all w

reported_meets : (op : Opcode) (a : Arguments) (v : Seen) (w : Words) → MeetsValues (reported op a v w)
reported_meets OperatorRandom a v w = made (λ (n : Num). Number n) _ (random_meets (value_at (codes "FROM") a) (value_at (codes "TO") a) w)
reported_meets OperatorJoin a v w = text_meets (text_at (codes "STRING1") a ++ text_at (codes "STRING2") a) w
reported_meets DataListContents a v w = text_meets (contents_text (items v a)) w
reported_meets DataItemOfList a v w = made (λ i. item_at i (items v a)) _ (indexed_meets (value_at (codes "INDEX") a) (length (items v a)) false w)
reported_meets op a v w = tt

mutual
  value_meets : (v : Seen) (e : Expression) (w : Words) → MeetsValues (value v e w)
  value_meets v (Constant x) w = tt
  value_meets v (Variable ref) w = tt
  value_meets v (Contents ref) w = text_meets (contents_text (items_of ref v.here v.records v.variables)) w
  value_meets v (Operator op fields refs inputs) w =
      then_meets (values v inputs w) _ (values_meet v inputs w) (λ d. reported_meets op (record { values = d.value; fields = fields; variables = refs }) v d.words)

  values_meet : (v : Seen) (inputs : Expressions) (w : Words) → MeetsValues (values v inputs w)
  values_meet v NoInput w = tt
  values_meet v (AndInput name e rest) w =
      then_meets (value v e w) _ (value_meets v e w) (λ d. made (λ xs. (name, d.value) ∷ xs) (values v rest d.words) (values_meet v rest d.words))

arguments_meet : (v : View) (o : Option CachedBlock) (w : Words) → MeetsValues (arguments_by v o w)
arguments_meet v None w = tt
arguments_meet v (Some c) w = made (λ xs. arguments xs c.fields) (input_values v c.inputs w) (values_meet (seen v) (inputs_by (expression (sheet_of v)) c.inputs) w)

-- a stop tells the limit that was met
stop_of : {T A : Type 0} (r : Result T Stop) (o : Outcome A) → MeetsValues o → StopIs r o → IfErr r IsOfValuesOrMemory
stop_of (Ok x) o h s = tt
stop_of (Err Stack) o h s = subst MeetsValues s h
stop_of (Err (Text n)) o h s = subst MeetsValues s h
stop_of (Err (Counter which)) o h s = subst MeetsValues s h
stop_of (Err NoMemory) o h s = tt

pub arguments_stop : {T : Type 0} (r : Result T Stop) (v : View) (k : ℕ) (w : Words) → StopIs r (arguments_at v k w) → IfErr r IsOfValuesOrMemory
arguments_stop r v k w s = stop_of r (arguments_at v k w) (arguments_meet v (slice_get (cached_blocks (sheet_of v)) k) w) s
