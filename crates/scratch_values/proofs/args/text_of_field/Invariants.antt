use Rattle.std.proofs.Common.{◌≡◌, drop}
use Rattle.scratch_values.specs.Named.{item_named}
use Rattle.scratch_values.specs.Args.{field_texts}
use Rattle.scratch_values.proofs.args.text_of_field.Given as goal

abbrev pub invariant-loop-field : goal.invariant-loop-field
invariant-loop-field l = item_named l.name (field_texts (drop l.field-index l.fields)) ≡ item_named l.name (field_texts l.fields)
