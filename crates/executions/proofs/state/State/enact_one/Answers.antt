-- The arguments are those of the input and the fields.
use Rattle.std.proofs.Common.{[], ◌∷◌, ap, ◌∙◌, subst}
use Rattle.scratch_values.specs.Args.{arguments}
use Rattle.scratch_values.specs.Held.{pair_of}
use Rattle.executions.specs.Answers.{Answers}
use Rattle.executions.specs.Rows.{Enacts}
use Rattle.executions.proofs.state.State.enact_one.Goals as goal

pub returns : goal.returns
returns g c =
    subst (λ a. Answers g.R.Rng.stream c.args.project.now c.args.slot (Enacts g.R.Rng.stream c.args.project.now c.args.slot c.args.id c.args.late a c.args.self.now) c.enact.result c.enact.new.runner c.enact.new.self)
    (c.one-args.ensures ∙ ap (arguments (pair_of c.args.first ∷ [])) c.as_slice.ensures) c.enact.ensures
