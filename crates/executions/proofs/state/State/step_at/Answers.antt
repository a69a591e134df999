-- The block of the top level is one of the target's.
use Rattle.executions.proofs.Runs.{runs_at}
use Rattle.executions.proofs.state.State.step_at.Goals as goal

pub execute-requires : goal.execute-requires
execute-requires g c = runs_at c.args.project.now c.args.slot c.args.id c.args.runner.now c.args.self.now c.requires.runs c.requires.block
