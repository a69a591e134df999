use Rattle.std.proofs.Common.{ap, ◌∙◌, length}
use Rattle.std.specs.Prelude.{unwrap_or}
use Rattle.scratch_number.proofs.Scanning.{digit_run-position}
use Rattle.scratch_number.proofs.numerals.digit_run.Goals as goal

pub returns-clause-value : goal.returns-clause-value
returns-clause-value c =
    c.unwrap_or.ensures ∙ ap (λ o. unwrap_or o (length c.args.text.now)) c.digits_end.ensures.value ∙ digit_run-position c.args.text.now
