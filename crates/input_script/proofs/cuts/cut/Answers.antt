use Rattle.std.proofs.Common.{eqb, arith}
use Rattle.std.proofs.lemmas.List.Splits.{slice_split_first}
use Rattle.input_script.proofs.FirstLine.{split_none}
use Rattle.input_script.proofs.cuts.cut.Goals as goal

pub returns-in-Some-clause-parted : goal.returns-in-Some-clause-parted
returns-in-Some-clause-parted c =
    let h = c.in-Some.ensures.byte (omega arith) (λ w o f. f) in
    let e = slice_split_first (λ b. eqb b 32) c.args.text.now 0 h.2 in
    cc

pub returns-in-None-clause-alone : goal.returns-in-None-clause-alone
returns-in-None-clause-alone c = split_none (λ b. eqb b 32) c.args.text.now (c.in-None.ensures.byte (omega arith) (λ w o f. f))
