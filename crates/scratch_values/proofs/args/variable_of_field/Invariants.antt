use Rattle.std.proofs.Common.{◌≡◌, drop}
use Rattle.scratch_values.specs.Named.{item_named}
use Rattle.scratch_values.specs.Args.{field_variables}
use Rattle.scratch_values.proofs.args.variable_of_field.Given as goal

abbrev pub invariant-loop-field : goal.invariant-loop-field
invariant-loop-field l = item_named l.name (field_variables (drop l.field-index l.fields)) ≡ item_named l.name (field_variables l.fields)
