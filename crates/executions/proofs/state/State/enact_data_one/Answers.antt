-- The row of a block of data, and then the runner goes on.
use Rattle.std.proofs.Common.{[], ◌∷◌, refl}
use Rattle.scratch_values.specs.Args.{arguments}
use Rattle.scratch_values.specs.Held.{pair_of}
use Rattle.machine_spec.specs.declared.threads.Report.{Report}
use Rattle.executions.proofs.Plainly.{data_keeps}
use Rattle.executions.proofs.Rowing.{data_at, data_stops, data_goes, data_after}
use Rattle.executions.proofs.state.State.enact_data_one.Goals as goal

pub go_on-requires : goal.go_on-requires
go_on-requires g c = data_at g.R.Rng.stream c.args.project.now c.args.slot c.args.id c.args.late (arguments (pair_of c.args.first ∷ []) c.args.block.now.fields) c.args.runner.now c.args.self.now c.requires.at c.args.block.now c.requires.block (data_keeps c.args.block.now.op c.requires.group) c.apply_data_one.new.self c.in-Ok.ensures.kept

pub returns-in-Ok : goal.returns-in-Ok
returns-in-Ok g c = record {
  ok = data_goes g.R.Rng.stream c.args.project.now c.args.slot c.args.id c.args.late (arguments (pair_of c.args.first ∷ []) c.args.block.now.fields) c.args.runner.now c.args.self.now c.requires.at c.args.block.now c.requires.block (data_keeps c.args.block.now.op c.requires.group) c.apply_data_one.new.self c.in-Ok.ensures.kept c.in-Ok.ensures.ok _ refl c.go_on.result c.go_on.ensures;
  after = data_after g.R.Rng.stream c.args.project.now c.args.slot c.args.id c.args.late (arguments (pair_of c.args.first ∷ []) c.args.block.now.fields) c.args.runner.now c.args.self.now c.requires.at c.args.block.now c.requires.block (data_keeps c.args.block.now.op c.requires.group) c.apply_data_one.new.self c.in-Ok.ensures.kept c.in-Ok.ensures.ok _ refl c.go_on.result c.go_on.ensures;
  stop = λ t s rest found e. tt;
}

pub returns-in-Err : goal.returns-in-Err
returns-in-Err g c = record {
  ok = tt;
  after = tt;
  stop = data_stops g.R.Rng.stream c.args.project.now c.args.slot c.args.id c.args.late (arguments (pair_of c.args.first ∷ []) c.args.block.now.fields) c.args.runner.now c.args.self.now c.requires.at c.args.block.now c.requires.block (data_keeps c.args.block.now.op c.requires.group) Unit Report c.in-Err.stop c.in-Err.ensures.stop;
}
