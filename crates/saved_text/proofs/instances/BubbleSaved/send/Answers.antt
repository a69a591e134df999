use Rattle.std.proofs.Common.{subst}
use Rattle.std.specs.Prelude.{IsUtf8}
use Rattle.std.proofs.lemmas.Result.{on_ok_weaker}
use Rattle.saved_text.proofs.instances.BubbleSaved.send.Goals as goal

pub returns-clause-ranges : goal.returns-clause-ranges
returns-clause-ranges g c = on_ok_weaker c.end_seq.result (λ e. record { utf8 = subst IsUtf8 c.as_str.ensures c.as_str.utf8; usage = c.in_ok-send.ensures.ranges }) c.end_seq.ensures
