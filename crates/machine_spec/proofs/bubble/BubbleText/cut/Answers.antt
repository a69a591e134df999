-- The first characters of a text are few.
use Rattle.std.proofs.Common.{rules}
use Rattle.machine_spec.proofs.Bubbles.{char_count-take_chars, styled-cut}
use Rattle.machine_spec.proofs.bubble.BubbleText.cut.Goals as goal

-- src/bubble.rt:45:5
pub returns : goal.returns
returns c = search (rules, styled-cut)

-- src/bubble.rt:49:9
pub invariant_of-result : goal.invariant_of-result
invariant_of-result c = rw (returns c) (char_count-take_chars 330 c.args.text.now)
