use Rattle.std.proofs.Common.{take}
use Rattle.hat_index.specs.Hats.{hats_in, IsTarget}
use Rattle.hat_index.proofs.target_hats.TargetHats.of.Given as goal

-- the hats among the heads so far
abbrev pub invariant-loop-head : goal.invariant-loop-head
invariant-loop-head l = IsTarget l.hats (hats_in l.blocks (take l.head-index l.heads))
