use Rattle.std.proofs.Common.{arith, ◌<◌, length}
use Rattle.project_check.specs.Loaded.{tables_of}
use Rattle.report_command.proofs.Counted.{more_flags}
use Rattle.report_command.proofs.project_counts.all_flags.Goals as goal

pub loop-target-preserved : goal.loop-target-preserved
loop-target-preserved c =
    let end = c.target_count-target-end.ensures in
    let t = c.loop-target-test.true in
    let within : c.loop-target.target < length (tables_of c.args.project.now) = omega arith in
    more_flags (tables_of c.args.project.now) c.loop-target.target c.blocks-in-loop-target.result.now.blocks within c.blocks-in-loop-target.ensures.blocks
    c.loop-target.all.items c.push.new.self.items c.in_ok-flags.flags c.in_ok-flags.ensures c.in_ok-push.ensures.items c.loop-target.invariant
