use Rattle.std.proofs.Common.{arith}
use Rattle.made_texts.proofs.Counting.{copies-counted}
use Rattle.made_texts.proofs.laws.blocks_are_counted.Goals as goal

pub returns : goal.returns
returns c = λ copies. omega (arith, copies-counted 1 copies)
