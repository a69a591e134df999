use Rattle.std.proofs.Common.{refl, sym, ◌∙◌}
use Rattle.machine_spec.specs.Threads.{among}
use Rattle.thread_frames.specs.Threads.{listed}
use Rattle.thread_frames.proofs.Waits.{wait_by-none, wait_by-more, yields, sees, passes}
use Rattle.thread_frames.proofs.threads.Threads.wait_for.Goals as goal
use Rattle.thread_frames.proofs.threads.Threads.wait_for.Goals.{in-Some-YieldTick, in-Some-PromiseWait, in-Some-Done, in-None}

pub loop-serial-init : goal.loop-serial-init
loop-serial-init c = wait_by-none (among (listed c.args.self.now) c.args.serials.now)

pub returns-in-Some-Running : goal.returns-in-Some-Running
returns-in-Some-Running c =
    let more = sym (wait_by-more c.loop-serial.is_listed (listed c.args.self.now) c.args.serials.now c.loop-serial.serial-index c.serial-item.result c.status_of.result c.loop-serial-test.true c.serial-item.is c.status_of.ensures) ∙ c.loop-serial.invariant in
    yields c.status_of.result _ _ _ _ more c.in-Some-Running.is c.in-Some-Running.field-0-is

pub loop-serial-preserved : goal.loop-serial-preserved
loop-serial-preserved c =
    let more = sym (wait_by-more c.loop-serial.is_listed (listed c.args.self.now) c.args.serials.now c.loop-serial.serial-index c.serial-item.result c.status_of.result c.loop-serial-test.true c.serial-item.is c.status_of.ensures) ∙ c.loop-serial.invariant in
    elim c.match-status_of.branch [
      | in-Some-YieldTick w ↦ sees c.status_of.result _ _ _ _ _ _ more w.in-Some-YieldTick.is w.in-Some-YieldTick.field-0-is refl w.is_listed-is
      | in-Some-PromiseWait w ↦ sees c.status_of.result _ _ _ _ _ _ more w.in-Some-PromiseWait.is w.in-Some-PromiseWait.field-0-is refl w.is_listed-is
      | in-Some-Done w ↦ sees c.status_of.result _ _ _ _ _ _ more w.in-Some-Done.is w.in-Some-Done.field-0-is refl w.is_listed-is
      | in-None w ↦ passes c.status_of.result _ _ _ _ more w.in-None.is w.is_listed-is
    ]
