-- Passes change neither the number of the frame nor the clock.
use Rattle.std.proofs.Common.{true, false, ◌^◌}
use Rattle.machine_spec.specs.Frame.{passes}
use Rattle.project_check.specs.Loaded.{program_of}
use Rattle.executions.specs.Seen.{seen}
use Rattle.frames.proofs.Framed.{clock-behind, few-behind}
use Rattle.frames.proofs.Times.{passes-keep}
use Rattle.frames.proofs.frame_order.make_passes.Goals as goal

pub returns-clause-clock : goal.returns-clause-clock
returns-clause-clock g c =
    let p = program_of c.args.project.now in
    let b = c.args.budget.now in
    let w = seen g.R.Rng.stream c.args.project.now (record c.args.state.now { redraw = false }) in
    clock-behind (passes p b.warp b.passes true true w) w (seen g.R.Rng.stream c.args.project.now c.passes.new.state) (passes-keep p b.warp b.passes true true w) c.passes.result c.passes.ensures.ok

pub returns-clause-few : goal.returns-clause-few
returns-clause-few g c =
    let p = program_of c.args.project.now in
    let b = c.args.budget.now in
    let w = seen g.R.Rng.stream c.args.project.now (record c.args.state.now { redraw = false }) in
    few-behind (passes p b.warp b.passes true true w) w (seen g.R.Rng.stream c.args.project.now c.passes.new.state) (passes-keep p b.warp b.passes true true w) c.passes.result c.passes.ensures.ok (2 ^ 62) c.requires.few
