use Rattle.std.proofs.Common.{sym, ◌∙◌, ap, arith, subst}
use Rattle.input_script.specs.Kept.{is_whole}
use Rattle.std.specs.Str.Parse.{ParsesUnsigned}
use Rattle.play_command.proofs.Parsed.{unparsed}
use Rattle.play_command.proofs.whole_numbers.whole_up_to.Goals as goal

pub returns-in-Err-clause-number : goal.returns-in-Err-clause-number
returns-in-Err-clause-number c =
    unparsed c.args.most c.args.word.now c.in-Err.field-0 (omega arith)
    (ap is_whole (sym c.as_bytes.ensures.value) ∙ sym c.is_whole.ensures ∙ c.if-not-is_whole.false)
    (subst (ParsesUnsigned 64 10 c.args.word.now) c.in-Err.is c.parse.ensures.value.0)
