use Rattle.std.proofs.Common.{◌++◌, ◌+◌, ap, sym, ◌∙◌}
use Rattle.made_texts.specs.MadeScript.{made_lines}
use Rattle.made_texts.proofs.Counting.{mapped-more}
use Rattle.made_texts.proofs.script.script_text.Goals as goal

pub loop-earlier-preserved : goal.loop-earlier-preserved
loop-earlier-preserved c =
    c.in_ok-push_lines.ensures ∙ ap (λ s. s ++ made_lines (c.loop-earlier.earlier + 1)) c.loop-earlier.invariant
    ∙ sym (mapped-more made_lines c.loop-earlier.earlier)
