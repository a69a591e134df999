-- What an evaluation reads, as the view of the reference machine, and the values of the inputs of a block.
use Rattle.std.specs.Prelude.{ℕ, List, [], slice_get, unwrap_or, Option, None, Some}
use Rattle.scratch_values.specs.Named.{Arguments}
use Rattle.scratch_values.specs.Args.{arguments}
use Rattle.scratch_values.specs.declared.names.ResolvedField.{ResolvedField}
use Rattle.scratch_values.specs.declared.value.Value.{Value}
use Rattle.machine_spec.specs.Outcome.{Outcome, then_do}
use Rattle.machine_spec.specs.Words.{Words, Drawn, undrawn, made_of}
use Rattle.machine_spec.specs.View.{View as Seen}
use Rattle.machine_spec.specs.Threads.{Params}
use Rattle.machine_spec.specs.Evaluate.{value, values}
use Rattle.project_spec.specs.declared.blocks.Operand.{Operand}
use Rattle.project_spec.specs.Trees.{Sheet, operand_expression, inputs_by, expression}
use Rattle.cached_blocks.specs.declared.block.CachedBlock.{CachedBlock}
use Rattle.cached_blocks.specs.Cached.{cached_blocks}
use Rattle.project_check.specs.Loaded.{program_of, sheet_at}
use Rattle.thread_frames.specs.declared.level.Level.{Level}
use Rattle.thread_frames.specs.Levels.{near_params}
use Rattle.evaluate.specs.declared.view.View.{View}

-- the parameters of the procedure that runs: those of the nearest level of the thread that has some
abbrev pub params_of : Option (List Level) → Option Params
params_of None = None
params_of (Some levels) = near_params levels

abbrev pub seen : View → Seen
seen v = record {
  records = (program_of v.project.now).records;
  targets = v.targets.now;
  variables = v.variables.now;
  devices = v.devices.now;
  here = v.here;
  params = unwrap_or (params_of v.levels) [];
}

-- the blocks of the target whose block is evaluated, and what they name
abbrev pub sheet_of : View → Sheet
sheet_of v = sheet_at v.target v.project.now

-- the value of what an input holds, and of a reporter
abbrev pub operand_value : View → Operand → Words → Outcome (Drawn Value)
operand_value v x w = value (seen v) (operand_expression x (expression (sheet_of v))) w

abbrev pub reporter_value : View → ℕ → Words → Outcome (Drawn Value)
reporter_value v j w = value (seen v) (expression (sheet_of v) j) w

-- the values of inputs in document order
abbrev pub input_values : View → List (List ℕ × Operand) → Words → Outcome (Drawn (List (List ℕ × Value)))
input_values v xs w = values (seen v) (inputs_by (expression (sheet_of v)) xs) w

-- the arguments of a block of the target
abbrev pub arguments_by : View → Option CachedBlock → Words → Outcome (Drawn Arguments)
arguments_by v None w = undrawn w (arguments [] [])
arguments_by v (Some c) w = then_do (input_values v c.inputs w) (made_of (λ xs. arguments xs c.fields))

abbrev pub arguments_at : View → ℕ → Words → Outcome (Drawn Arguments)
arguments_at v k w = arguments_by v (slice_get (cached_blocks (sheet_of v)) k) w

-- the inputs of a block of the target, and its fields
abbrev pub inputs_of : Option CachedBlock → List (List ℕ × Operand)
inputs_of None = []
inputs_of (Some c) = c.inputs

abbrev pub inputs_at : View → ℕ → List (List ℕ × Operand)
inputs_at v k = inputs_of (slice_get (cached_blocks (sheet_of v)) k)

abbrev pub fields_of : Option CachedBlock → List ResolvedField
fields_of None = []
fields_of (Some c) = c.fields

abbrev pub fields_at : View → ℕ → List ResolvedField
fields_at v k = fields_of (slice_get (cached_blocks (sheet_of v)) k)
