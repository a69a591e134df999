-- The text of a value tells the rule that fits.
use Rattle.std.proofs.Common.{◌∙◌}
use Rattle.looks_blocks.proofs.Choosing.{choice_text, choice_truth}
use Rattle.looks_blocks.proofs.choices.choice_of.Goals as goal

pub returns-in-Truth : goal.returns-in-Truth
returns-in-Truth c = c.by_text.ensures ∙ choice_truth c.args.is_backdrop c.args.names.now c.args.now c.args.value.now _ c.in-Truth.is

pub returns-in-Text : goal.returns-in-Text
returns-in-Text c = c.by_text-in-Text.ensures ∙ choice_text c.args.is_backdrop c.args.names.now c.args.now c.args.value.now _ c.in-Text.is
