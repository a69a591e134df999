use Rattle.std.proofs.Common.{refl}
use Rattle.report_command.specs.Verdict.{accepted}
use Rattle.report_command.proofs.judgement.judge_accepted.Goals as goal

pub returns : goal.returns
returns c = record { verdict = accepted c.args.counts; is = c.requires; text = c.in_ok-text.ensures; refusal = refl; rule = tt }
