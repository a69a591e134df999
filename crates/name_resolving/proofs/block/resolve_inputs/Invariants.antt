use Rattle.std.proofs.Common.{take}
use Rattle.std.specs.List.{flat_map}
use Rattle.project_spec.specs.Resolving.{input_naming}
use Rattle.target_records.specs.Records.{records_in}
use Rattle.name_resolving.specs.Passing.{Passes}
use Rattle.name_resolving.proofs.block.resolve_inputs.Given as goal

abbrev pub invariant-loop-input : goal.invariant-loop-input
invariant-loop-input l =
    Passes l.initial.scope l.scope (flat_map input_naming (take l.input-index l.inputs)) (records_in l.initial.records) l.initial.refs (records_in l.records) l.refs
