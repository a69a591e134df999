use Rattle.std.proofs.Common.{length, ap, arith}
use Rattle.machine_spec.specs.Program.{record_at}
use Rattle.project_spec.specs.Resolving.{input_naming}
use Rattle.target_records.specs.Records.{records_in}
use Rattle.name_resolving.specs.Room.{holdings}
use Rattle.name_resolving.proofs.Fewness.{few-input, few-take}
use Rattle.name_resolving.proofs.block.resolve_inputs.Goals as goal

pub resolve_naming-requires-clause-room : goal.resolve_naming-requires-clause-room
resolve_naming-requires-clause-room c =
    let records = records_in c.loop-input.records in
    let same = ap (λ k. holdings (record_at k records)) c.loop-input.invariant.target in
    let more = c.loop-input.invariant.grows.more in
    let so_far = few-take input_naming few-input c.args.inputs.now c.loop-input.input-index (omega arith) in
    let next = few-input c.input-item.result in
    let listed = ap length c.input_naming-naming.ensures in
    omega (arith, same, more, so_far, next, listed)
