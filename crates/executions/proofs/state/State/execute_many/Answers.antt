-- The inputs are evaluated, and then the block is enacted.
use Rattle.std.proofs.Common.{[], ap}
use Rattle.scratch_values.specs.Named.{Arguments}
use Rattle.machine_spec.specs.declared.threads.Report.{Report}
use Rattle.executions.proofs.Enacting.{of_ok}
use Rattle.thread_frames.specs.Levels.{near_params}
use Rattle.executions.proofs.Rowing.{executes_so, runner_stopped}
use Rattle.executions.proofs.state.State.execute_many.Goals as goal

pub returns-in-Ok : goal.returns-in-Ok
returns-in-Ok g c =
    executes_so g.R.Rng.stream c.args.project.now c.args.slot c.args.id c.args.late c.in-Ok.args c.args.runner.now c.args.self.now c.requires _ (ap near_params c.levels_at-levels.ensures) c.inputs.new.words
    (of_ok c.inputs.result _ c.in-Ok.args c.in-Ok.is c.inputs.ensures.ok)
    c.enact.result c.enact.new.runner c.enact.new.self c.enact.ensures

pub returns : goal.returns
returns g c = record {
  ok = tt;
  after = tt;
  stop = runner_stopped g.R.Rng.stream c.args.project.now c.args.slot c.args.id c.args.late (record { values = []; fields = []; variables = [] }) c.args.runner.now c.args.self.now c.requires _ (ap near_params c.levels_at-levels.ensures) Arguments Report c.inputs.result c.in-Err.stop c.in-Err.is c.inputs.ensures.stop;
}
