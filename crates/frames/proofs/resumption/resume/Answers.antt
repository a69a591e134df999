-- The thread that goes on is seen to.
use Rattle.std.proofs.Common.{sym, ◌∙◌}
use Rattle.std.proofs.lemmas.Result.{on_ok_weaker}
use Rattle.frames.proofs.Resumes.{none_resumed, resumed_is, resumed_idle}
use Rattle.frames.proofs.resumption.resume.Goals as goal

pub returns-in-Some-clause-resumed : goal.returns-in-Some-clause-resumed
returns-in-Some-clause-resumed g c = on_ok_weaker c.resume_at.result (resumed_is g.R.Rng.stream c.args.project.now c.args.state.now c.args.serial c.in-Some.slot (sym c.in-Some.is ∙ c.slot_of.ensures) c.resume_at.new.threads) c.resume_at.ensures

pub returns-in-None-clause-resumed : goal.returns-in-None-clause-resumed
returns-in-None-clause-resumed g c = none_resumed g.R.Rng.stream c.args.project.now c.args.state.now c.args.serial (sym c.in-None.is ∙ c.slot_of.ensures)

pub returns-in-Some-clause-kept : goal.returns-in-Some-clause-kept
returns-in-Some-clause-kept g c = on_ok_weaker c.resume_at.result (λ on. resumed_idle c.args.project.now c.args.state.now c.in-Some.slot c.resume_at.new.threads on c.requires) c.resume_at.ensures
