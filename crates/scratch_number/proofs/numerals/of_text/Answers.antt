use Rattle.std.proofs.Common.{◌≡◌, ap, ◌∙◌}
use Rattle.std.specs.Str.{trim}
use Rattle.scratch_number.specs.Reading.{trimmed_number}
use Rattle.scratch_number.proofs.Grammars.{complete, reads}
use Rattle.scratch_number.proofs.numerals.of_text.Goals as goal

pub returns-clause-reads : goal.returns-clause-reads
returns-clause-reads c =
    let known : c.trimmed_number.result ≡ trimmed_number (trim c.args.text.now) = c.trimmed_number.ensures ∙ ap trimmed_number (c.as_bytes.ensures.value ∙ c.trim.ensures.trim) in
    rw known (reads (trim c.args.text.now))

pub returns-clause-only : goal.returns-clause-only
returns-clause-only c = λ n h.
    c.trimmed_number.ensures ∙ ap trimmed_number (c.as_bytes.ensures.value ∙ c.trim.ensures.trim) ∙ complete (trim c.args.text.now) n h
