-- The runner goes on.
use Rattle.std.proofs.Common.{refl}
use Rattle.machine_spec.specs.declared.threads.Control.TheVariants.{Next}
use Rattle.executions.proofs.Rowing.{choice_at, choice_goes, choice_after}
use Rattle.executions.proofs.state.State.pass_chosen.Goals as goal

pub go_on-requires : goal.go_on-requires
go_on-requires g c = choice_at g.R.Rng.stream c.args.project.now c.args.slot c.args.id c.args.late c.requires.chosen.args c.args.runner.now c.args.self.now c.requires.at c.args.block.now c.requires.block Next c.requires.chosen.is

pub returns : goal.returns
returns g c = record {
  ok = λ a is. choice_goes g.R.Rng.stream c.args.project.now c.args.slot c.args.id c.args.late a c.args.runner.now c.args.self.now c.requires.at c.args.block.now c.requires.block Next is _ refl c.go_on.result c.go_on.ensures (λ e. absurd (cc e));
  after = choice_after g.R.Rng.stream c.args.project.now c.args.slot c.args.id c.args.late c.requires.chosen.args c.args.runner.now c.args.self.now c.requires.at c.args.block.now c.requires.block Next c.requires.chosen.is _ refl c.go_on.result c.go_on.ensures;
  stop = λ a is t s rest found e. tt;
}
