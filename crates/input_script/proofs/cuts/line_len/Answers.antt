use Rattle.std.proofs.Common.{eqb, sym, ◌∙◌}
use Rattle.input_script.proofs.FirstLine.{len_at, len_all}
use Rattle.input_script.proofs.cuts.line_len.Goals as goal

pub returns-in-Some : goal.returns-in-Some
returns-in-Some c = len_at (λ b. eqb b 10) c.args.script.now c.in-Some.at (sym c.in-Some.is ∙ c.line_end.ensures.value)

pub returns-in-None : goal.returns-in-None
returns-in-None c = len_all (λ b. eqb b 10) c.args.script.now (sym c.in-None.is ∙ c.line_end.ensures.value)
