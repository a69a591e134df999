-- The empty text has no characters.
use Rattle.std.proofs.Common.{lit≤}
use Rattle.machine_spec.proofs.Bubbles.{char_count-nil}
use Rattle.machine_spec.proofs.bubble.BubbleText.new.Goals as goal

pub invariant_of-result : goal.invariant_of-result
invariant_of-result c = rw c.new.ensures (rw char_count-nil (lit≤ tt))
