-- What an evaluation and a row see, and what a row answers.
use Rattle.std.specs.Prelude.{ℕ, List, [], Bool, unwrap_or}
use Rattle.scratch_number.specs.declared.number.Num.{Num}
use Rattle.scratch_values.specs.Casts.{number, truth, zero_number}
use Rattle.scratch_values.specs.Value.{text_of}
use Rattle.scratch_values.specs.Named.{Arguments, item_named}
use Rattle.scratch_values.specs.declared.value.Value.{Value}
use Rattle.scratch_values.specs.declared.value.Value.TheVariants.{Number}
use Rattle.scratch_values.specs.declared.names.VarRef.{VarRef}
use Rattle.scratch_values.specs.declared.names.VarRef.TheVariants.{Own}
use Rattle.machine_spec.specs.Program.{Records}
use Rattle.machine_spec.specs.Stores.{Instance, Variables, Devices}
use Rattle.machine_spec.specs.Threads.{Params, Context, Control}

-- what an evaluation reads; `here` is the instance that evaluates
pub record View : Type 0 where
  pub records : Records
  pub targets : List Instance
  pub variables : Variables
  pub devices : Devices
  pub here : ℕ
  pub params : Params

-- what an execution of a block leaves: the parts of the world that its group may change, the context that is kept, what
-- the thread does, and whether a redraw is requested
pub record Row (P : Type 0) : Type 0 where
  pub parts : P
  pub context : Context
  pub control : Control
  pub redraw : Bool

-- the inputs and fields of a block by name; an input that is absent is 0 or false
abbrev pub value_at : List ℕ → Arguments → Value
value_at name args = unwrap_or (item_named name args.values) (Number zero_number)

abbrev pub number_at : List ℕ → Arguments → Num
number_at name args = number (value_at name args)

abbrev pub text_at : List ℕ → Arguments → List ℕ
text_at name args = text_of (value_at name args)

abbrev pub truth_at : List ℕ → Arguments → Bool
truth_at name args = truth (value_at name args)

abbrev pub field_at : List ℕ → Arguments → List ℕ
field_at name args = unwrap_or (item_named name args.fields) []

abbrev pub variable_at : List ℕ → Arguments → VarRef
variable_at name args = unwrap_or (item_named name args.variables) (Own 0)
