use Rattle.saved_checks.proofs.Lives.{live-more}
use Rattle.saved_checks.proofs.live_targets.LiveTargets.of.Goals as goal

-- one more instance was noted
pub loop-instance-preserved : goal.loop-instance-preserved
loop-instance-preserved c =
    live-more c.loop-instance.live c.note.new.self c.args.instances.now c.loop-instance.instance-index c.instance-item.result c.loop-instance-test.true c.instance-item.is
    c.loop-instance.invariant c.in_ok-note.ensures
