use Rattle.std.proofs.Common.{take}
use Rattle.std.specs.List.{flat_map}
use Rattle.project_spec.specs.Resolving.{field_naming}
use Rattle.target_records.specs.Records.{records_in}
use Rattle.name_resolving.specs.Passing.{Passes}
use Rattle.name_resolving.proofs.block.resolve_fields.Given as goal

abbrev pub invariant-loop-field : goal.invariant-loop-field
invariant-loop-field l =
    Passes l.initial.scope l.scope (flat_map (field_naming l.code) (take l.field-index l.fields)) (records_in l.initial.records) l.initial.refs (records_in l.records) l.refs
