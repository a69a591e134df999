-- A choice that was made by one input is one of its arguments.
use Rattle.std.proofs.Common.{rules, [], ◌∷◌, Ok}
use Rattle.scratch_values.specs.Args.{arguments}
use Rattle.scratch_values.specs.Held.{pair_of}
use Rattle.machine_spec.specs.declared.threads.Control.TheVariants.{Next}
use Rattle.executions.proofs.Enacting.{one_ok}
use Rattle.executions.proofs.Rowing.{chosen_so}
use Rattle.executions.proofs.state.State.enact_by.Goals as goal

pub enter_chosen-requires-clause-chosen : goal.enter_chosen-requires-clause-chosen
enter_chosen-requires-clause-chosen g c = record { args = arguments (pair_of c.args.first ∷ []) c.args.block.now.fields; is = search rules }

pub pass_chosen-requires-clause-chosen : goal.pass_chosen-requires-clause-chosen
pass_chosen-requires-clause-chosen g c = record { args = arguments (pair_of c.args.first ∷ []) c.args.block.now.fields; is = search rules }

pub returns-in-Some-Enter : goal.returns-in-Some-Enter
returns-in-Some-Enter g c = record {
  ok = one_ok c.enter_chosen.result _ _ (λ report acts. acts (arguments (pair_of c.args.first ∷ []) c.args.block.now.fields) (search rules)) c.enter_chosen.ensures.ok;
  after = c.enter_chosen.ensures.after;
  stop = c.enter_chosen.ensures.stop (arguments (pair_of c.args.first ∷ []) c.args.block.now.fields) (search rules);
}

pub returns-in-Some-Pass : goal.returns-in-Some-Pass
returns-in-Some-Pass g c =
    chosen_so g.R.Rng.stream c.args.project.now c.args.slot c.args.id c.args.late c.args.block.now.op Next c.args.self.now
    (Ok c.pass_chosen.result) c.args.runner.now c.pass_chosen.new.self (arguments (pair_of c.args.first ∷ []) c.args.block.now.fields) (search rules) c.pass_chosen.ensures
