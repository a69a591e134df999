use Rattle.std.proofs.Common.{ap}
use Rattle.play_command.specs.Stages.{rejected_by}
use Rattle.play_command.proofs.endings.rejected.Goals as goal

pub returns-in-Some : goal.returns-in-Some
returns-in-Some c = ap (rejected_by c.args.refusal) (rw c.in-Some.is at c.rule.ensures)

pub returns-in-None : goal.returns-in-None
returns-in-None c = ap (rejected_by c.args.refusal) (rw c.in-None.is at c.rule.ensures)
