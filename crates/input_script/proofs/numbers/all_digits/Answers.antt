use Rattle.std.proofs.Common.{rules, tests, ◌∙◌}
use Rattle.std.specs.Char.{is_ascii_digit}
use Rattle.std.proofs.lemmas.Iterator.{YieldsList-from_slice}
use Rattle.std.proofs.lemmas.Iterator.Search.{all_from_yields_List}
use Rattle.input_script.proofs.Parsed.{digits_same}
use Rattle.input_script.proofs.numbers.all_digits.Goals as goal

-- each byte is tested
pub returns : goal.returns
returns c =
    all_from_yields_List is_ascii_digit _ _ c.all.result c.all.ensures.ran (YieldsList-from_slice c.args.word.now cc) (λ x b q k. search (rules, tests))
    ∙ digits_same c.args.word.now
