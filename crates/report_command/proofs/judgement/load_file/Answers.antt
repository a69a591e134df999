use Rattle.std.proofs.Common.{sym, subst}
use Rattle.std.proofs.lemmas.Result.{IfOk-weaker}
use Rattle.report_command.specs.Stages.{IsLoaded}
use Rattle.report_command.proofs.Judgements.{cause}
use Rattle.report_command.proofs.judgement.load_file.Goals as goal

pub returns-in-Err : goal.returns-in-Err
returns-in-Err c = IfOk-weaker c.refused_by.result _ _ (λ l at. subst (IsLoaded c.args.bytes.now) (sym at.0) (cause c.args.bytes.now c.in-Err.refusal c.in-Err.ensures at.1, at.1)) c.refused_by.ensures
