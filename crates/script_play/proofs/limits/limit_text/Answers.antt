use Rattle.std.proofs.Common.{sym, ◌∙◌, ap}
use Rattle.std.proofs.lemmas.Result.{IfOk-weaker}
use Rattle.script_play.specs.Limits.{line_at}
use Rattle.script_play.proofs.Stopping.{stack_line}
use Rattle.script_play.proofs.limits.limit_text.Goals as goal

pub returns-in-Stack : goal.returns-in-Stack
returns-in-Stack c =
    IfOk-weaker c.text_of.result _ _ (λ text h. h ∙ sym stack_line ∙ ap line_at (sym c.in-Stack.is)) c.text_of.ensures
