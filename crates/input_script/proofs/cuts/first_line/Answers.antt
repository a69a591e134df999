use Rattle.std.proofs.Common.{◌≡◌, nat_eq, false, length, sym, ◌∙◌, arith}
use Rattle.std.proofs.lemmas.Bool.Decides.{nat_tests}
use Rattle.input_script.proofs.FirstLine.{cut_line, whole_line}
use Rattle.input_script.proofs.cuts.first_line.Goals as goal

pub returns-then-len-script-clause-line : goal.returns-then-len-script-clause-line
returns-then-len-script-clause-line c = cut_line c.args.script.now c.line_len-len.result c.line_len-len.ensures c.if-len-script.true

pub returns-else-len-script-clause-line : goal.returns-else-len-script-clause-line
returns-else-len-script-clause-line c =
    let full : nat_eq (length c.args.script.now) 0 ≡ false = sym c.is_empty.ensures ∙ c.if-is_empty.false in
    whole_line c.args.script.now c.line_len-len.result (grind (arith, nat_tests)) c.line_len-len.ensures c.if-len-script.false
