-- A choice that was made is one of the arguments.
use Rattle.std.proofs.Common.{Ok, rules}
use Rattle.machine_spec.specs.declared.threads.Control.TheVariants.{Next}
use Rattle.executions.proofs.Enacting.{one_ok}
use Rattle.executions.proofs.Rowing.{chosen_so}
use Rattle.executions.proofs.state.State.enact.Goals as goal

pub returns-in-Some-Enter : goal.returns-in-Some-Enter
returns-in-Some-Enter g c = record {
  ok = one_ok c.enter_chosen.result _ _ (λ report acts. acts c.args.args.now (search rules)) c.enter_chosen.ensures.ok;
  after = c.enter_chosen.ensures.after;
  stop = c.enter_chosen.ensures.stop c.args.args.now (search rules);
}

pub returns-in-Some-Pass : goal.returns-in-Some-Pass
returns-in-Some-Pass g c =
    chosen_so g.R.Rng.stream c.args.project.now c.args.slot c.args.id c.args.late c.cached-block.result.now.op Next c.args.self.now
    (Ok c.pass_chosen.result) c.args.runner.now c.pass_chosen.new.self c.args.args.now (search rules) c.pass_chosen.ensures
