-- The value of an expression: each input once, in document order, depth first, with no short circuit. The first limit
-- that is met is the answer (after scratch-vm, engine/execute.js).
use Rattle.std.specs.Prelude.{ℕ, List, [], ◌∷◌}
use Rattle.scratch_values.specs.declared.value.Value.{Value}
use Rattle.scratch_values.specs.Named.{Arguments}
use Rattle.machine_spec.specs.Outcome.{Outcome, then_do}
use Rattle.machine_spec.specs.Words.{Words, Drawn, undrawn, made_of}
use Rattle.machine_spec.specs.Script.{Expression, Constant, Variable, Contents, Operator, Expressions, NoInput, AndInput, Statement, command_of, inputs_of}
use Rattle.machine_spec.specs.Texts.{text_value, contents_text}
use Rattle.machine_spec.specs.Stores.{value_of, items_of}
use Rattle.machine_spec.specs.View.{View}
use Rattle.machine_spec.specs.Reporters.{reported}

abbrev mutual
  -- of an expression
  pub value : View → Expression → Words → Outcome (Drawn Value)
  value v (Constant x) w = undrawn w x
  value v (Variable ref) w = undrawn w (value_of ref v.here v.records v.variables)
  value v (Contents ref) w = then_do (text_value (contents_text (items_of ref v.here v.records v.variables))) (undrawn w)
  value v (Operator op fields refs inputs) w =
      then_do (values v inputs w) (λ d. reported op (record { values = d.value; fields = fields; variables = refs }) v d.words)

  -- of named inputs
  pub values : View → Expressions → Words → Outcome (Drawn (List (List ℕ × Value)))
  values v NoInput w = undrawn w []
  values v (AndInput name e rest) w =
      then_do (value v e w) (λ d. then_do (values v rest d.words) (made_of (λ xs. (name, d.value) ∷ xs)))

abbrev pub arguments_of : Statement → List (List ℕ × Value) → Arguments
arguments_of s xs = record { values = xs; fields = (command_of s).fields; variables = (command_of s).refs }

-- the arguments of a statement: the values of its inputs, and its fields
abbrev pub evaluated : View → Statement → Words → Outcome (Drawn Arguments)
evaluated v s w = then_do (values v (inputs_of s) w) (made_of (arguments_of s))
