-- A text has as many characters as bytes with which one begins.
use Rattle.std.proofs.Common.{◌∙◌, ap, length}
use Rattle.std.specs.Prelude.{filter}
use Rattle.std.specs.Fmt.{is_char_start}
use Rattle.saved_checks.proofs.Characters.{count-firsts}
use Rattle.saved_checks.proofs.lengths.characters.Goals as goal

pub returns : goal.returns
returns c = c.firsts.ensures ∙ ap (λ t. length (filter is_char_start t)) c.as_bytes.ensures.value ∙ count-firsts c.args.text.now
