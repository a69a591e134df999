-- The first question is the one that ends.
use Rattle.std.proofs.Common.{sym, ◌∙◌, subst}
use Rattle.machine_spec.specs.Outcome.{StopIs}
use Rattle.frames.proofs.Asked.{some_asked}
use Rattle.frames.proofs.question_answers.answer.Goals as goal

pub returns-in-Some-clause-stop : goal.returns-in-Some-clause-stop
returns-in-Some-clause-stop g c =
    subst (StopIs c.end_question.result) (sym (some_asked g.R.Rng.stream c.args.project.now c.args.state.now c.args.text c.answer.new.self c.answer.ensures.new c.in-Some.question (sym c.in-Some.is ∙ c.answer.ensures.first))) c.end_question.ensures.stop
