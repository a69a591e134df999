use Rattle.std.proofs.Common.{length, ap, arith}
use Rattle.machine_spec.specs.Program.{record_at}
use Rattle.project_spec.specs.Resolving.{field_naming}
use Rattle.target_records.specs.Records.{records_in}
use Rattle.name_resolving.specs.Room.{holdings}
use Rattle.name_resolving.proofs.Fewness.{few-field, few-take}
use Rattle.name_resolving.proofs.block.resolve_fields.Goals as goal

pub resolve_naming-requires-clause-room : goal.resolve_naming-requires-clause-room
resolve_naming-requires-clause-room c =
    let records = records_in c.loop-field.records in
    let same = ap (λ k. holdings (record_at k records)) c.loop-field.invariant.target in
    let more = c.loop-field.invariant.grows.more in
    let so_far = few-take (field_naming c.args.code.now) (few-field c.args.code.now) c.args.fields.now c.loop-field.field-index (omega arith) in
    let next = few-field c.args.code.now c.field-item.result in
    let listed = ap length c.field_naming-naming.ensures in
    omega (arith, same, more, so_far, next, listed)
