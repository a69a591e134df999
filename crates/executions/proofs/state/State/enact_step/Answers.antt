-- The row of a block of motion, and then the runner goes on.
use Rattle.std.proofs.Common.{refl}
use Rattle.executions.proofs.Plainly.{step_group, step_keeps}
use Rattle.executions.proofs.Rowing.{data_at, data_goes, data_after}
use Rattle.executions.proofs.state.State.enact_step.Goals as goal

pub apply_step-requires-clause-group : goal.apply_step-requires-clause-group
apply_step-requires-clause-group g c = step_group c.args.block.now.op c.requires.step

pub go_on-requires : goal.go_on-requires
go_on-requires g c = data_at g.R.Rng.stream c.args.project.now c.args.slot c.args.id c.args.late c.args.args.now c.args.runner.now c.args.self.now c.requires.at c.args.block.now c.requires.block (step_keeps c.args.block.now.op c.requires.step) c.apply_step.new.self c.apply_step.ensures.kept

pub returns : goal.returns
returns g c = record {
  ok = data_goes g.R.Rng.stream c.args.project.now c.args.slot c.args.id c.args.late c.args.args.now c.args.runner.now c.args.self.now c.requires.at c.args.block.now c.requires.block (step_keeps c.args.block.now.op c.requires.step) c.apply_step.new.self c.apply_step.ensures.kept c.apply_step.ensures.ok _ refl c.go_on.result c.go_on.ensures;
  after = data_after g.R.Rng.stream c.args.project.now c.args.slot c.args.id c.args.late c.args.args.now c.args.runner.now c.args.self.now c.requires.at c.args.block.now c.requires.block (step_keeps c.args.block.now.op c.requires.step) c.apply_step.new.self c.apply_step.ensures.kept c.apply_step.ensures.ok _ refl c.go_on.result c.go_on.ensures;
  stop = λ t s rest found e. tt;
}
