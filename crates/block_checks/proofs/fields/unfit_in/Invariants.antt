use Rattle.std.proofs.Common.{◌≡◌, drop, map}
use Rattle.std.specs.List.{find}
use Rattle.opcode_table.specs.Views.{field_of}
use Rattle.project_spec.specs.Linked.{named, is_unfit_field}
use Rattle.block_checks.proofs.fields.unfit_in.Given as goal

abbrev pub invariant-loop-name : goal.invariant-loop-name
invariant-loop-name l = find (λ name. is_unfit_field l.op (named name l.fields)) (map field_of l.names) ≡ find (λ name. is_unfit_field l.op (named name l.fields)) (map field_of (drop l.name-index l.names))
