-- Bubbles that end change neither the number of the frame nor the clock.
use Rattle.std.proofs.Common.{length, ◌^◌}
use Rattle.machine_spec.specs.Frame.{timers_ended}
use Rattle.executions.specs.Seen.{seen}
use Rattle.frames.proofs.Framed.{clock-behind, few-behind}
use Rattle.frames.proofs.Times.{timers-keep}
use Rattle.frames.proofs.frame_order.end_bubbles.Goals as goal

pub returns-clause-clock : goal.returns-clause-clock
returns-clause-clock g c =
    let w = seen g.R.Rng.stream c.args.project.now c.args.state.now in
    let n = length c.args.state.now.devices.timers in
    clock-behind (timers_ended n w) w (seen g.R.Rng.stream c.args.project.now c.end_timers.new.state) (timers-keep n w) c.end_timers.result c.end_timers.ensures.ok

pub returns-clause-few : goal.returns-clause-few
returns-clause-few g c =
    let w = seen g.R.Rng.stream c.args.project.now c.args.state.now in
    let n = length c.args.state.now.devices.timers in
    few-behind (timers_ended n w) w (seen g.R.Rng.stream c.args.project.now c.end_timers.new.state) (timers-keep n w) c.end_timers.result c.end_timers.ensures.ok (2 ^ 62) c.requires.few
