use Rattle.std.proofs.Common.{ap, arith}
use Rattle.std.proofs.lemmas.List.Sums.{sum_by_more}
use Rattle.name_resolving.specs.Room.{parts}
use Rattle.loading_tests.proofs.name_resolving_tests.are_few.Goals as goal

pub loop-block-preserved : goal.loop-block-preserved
loop-block-preserved c =
    let more = sum_by_more parts c.args.blocks.now c.loop-block.block-index c.block-item.result c.loop-block-test.true in
    let here = ap parts c.block-item.is in
    let fields = c.len-fields.ensures in
    let inputs = c.len-inputs.ensures in
    record { so_far = omega (arith, more, here, fields, inputs); few = omega arith }
