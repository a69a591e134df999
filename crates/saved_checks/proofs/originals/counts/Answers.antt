use Rattle.std.proofs.Common.{◌<◌, ◌^◌, length, arith}
use Rattle.saved_checks.proofs.Counts.{room, one-more}
use Rattle.saved_checks.proofs.originals.counts.Goals as goal

-- no count is above the number of instances before
pub count_one-requires : goal.count_one-requires
count_one-requires c =
    let fits : length c.args.instances.now < 2 ^ 64 = omega arith in
    room c.args.instances.now c.loop-instance.instance-index (length c.args.instances.now) c.args.targets c.loop-instance.counts.items c.loop-instance-test.true fits c.loop-instance.invariant

pub loop-instance-preserved : goal.loop-instance-preserved
loop-instance-preserved c =
    one-more c.args.instances.now c.loop-instance.instance-index c.args.targets c.instance-item.result c.loop-instance.counts.items c.count_one.new.counts.items
    c.loop-instance-test.true c.instance-item.is c.count_one.ensures.many c.count_one.ensures.each c.loop-instance.invariant
