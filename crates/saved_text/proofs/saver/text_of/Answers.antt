use Rattle.std.proofs.Common.{◌∙◌, ap, subst}
use Rattle.saved_spec.specs.Ranges.{IsRun}
use Rattle.saved_text.specs.Ranges.{IsThread}
use Rattle.saved_spec.specs.Saved.{saved_text}
use Rattle.saved_text.specs.Seen.{seen_with}
use Rattle.saved_text.specs.Threads.{thread}
use Rattle.saved_text.proofs.Texts.{written_text}
use Rattle.saved_text.proofs.saver.text_of.Goals as goal

pub returns-in-Ok-clause-text : goal.returns-in-Ok-clause-text
returns-in-Ok-clause-text c =
    let run = c.args.run.now in
    written_text (seen_with run c.as_str.result.now) c.in-Ok.text.items (let h = c.in-Ok.ensures.events in (h.0, h.1.0, h.2))
    ∙ ap (λ digits. saved_text thread (seen_with run digits)) (c.as_str.ensures.value ∙ c.in_ok-digits.ensures)

pub returns-in-Ok-clause-ranges : goal.returns-in-Ok-clause-ranges
returns-in-Ok-clause-ranges c = subst (λ digits. IsRun IsThread (seen_with c.args.run.now digits)) (c.as_str.ensures.value ∙ c.in_ok-digits.ensures) c.in-Ok.ensures.events.1.1
