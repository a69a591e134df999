-- Edge hats change neither the number of the frame nor the clock.
use Rattle.std.proofs.Common.{◌^◌}
use Rattle.machine_spec.specs.Frame.{edges}
use Rattle.project_check.specs.Loaded.{program_of}
use Rattle.executions.specs.Seen.{seen}
use Rattle.frames.specs.Stages.{edges_tried}
use Rattle.frames.proofs.Framed.{clock-behind, few-behind}
use Rattle.frames.proofs.Times.{edges-keep}
use Rattle.frames.proofs.frame_order.start_edge_hats.Goals as goal

pub returns-clause-clock : goal.returns-clause-clock
returns-clause-clock g c =
    let p = program_of c.args.project.now in
    let w = seen g.R.Rng.stream c.args.project.now c.args.state.now in
    clock-behind (edges_tried p w) w (seen g.R.Rng.stream c.args.project.now c.pass_edge_hats.new.state) (edges-keep p (edges p w) w) c.pass_edge_hats.result c.pass_edge_hats.ensures.ok

pub returns-clause-few : goal.returns-clause-few
returns-clause-few g c =
    let p = program_of c.args.project.now in
    let w = seen g.R.Rng.stream c.args.project.now c.args.state.now in
    few-behind (edges_tried p w) w (seen g.R.Rng.stream c.args.project.now c.pass_edge_hats.new.state) (edges-keep p (edges p w) w) c.pass_edge_hats.result c.pass_edge_hats.ensures.ok (2 ^ 62) c.requires.few
