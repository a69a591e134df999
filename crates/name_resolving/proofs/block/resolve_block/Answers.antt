use Rattle.std.proofs.Common.{length, ap, arith}
use Rattle.machine_spec.specs.Program.{record_at}
use Rattle.project_spec.specs.Resolving.{field_naming}
use Rattle.target_records.specs.Records.{records_in}
use Rattle.name_resolving.specs.Room.{holdings}
use Rattle.name_resolving.proofs.Fewness.{few-field, few-flat_map}
use Rattle.name_resolving.proofs.block.resolve_block.Goals as goal

pub resolve_inputs-requires-clause-room : goal.resolve_inputs-requires-clause-room
resolve_inputs-requires-clause-room c =
    let code = c.args.block.now.code in
    let passed = rw c.as_slice.ensures at c.in_ok-resolve_fields.ensures in
    let same = ap (λ k. holdings (record_at k (records_in c.resolve_fields.new.records))) passed.target in
    let more = passed.grows.more in
    let few = few-flat_map (field_naming code) (few-field code) c.args.block.now.fields in
    let inputs = ap length c.as_slice-2.ensures in
    let room = c.requires.room in
    omega (arith, same, more, few, inputs, room)
