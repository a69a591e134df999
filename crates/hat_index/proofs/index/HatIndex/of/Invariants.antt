use Rattle.std.proofs.Common.{map}
use Rattle.hat_index.proofs.Finding.{AreTargets}
use Rattle.hat_index.proofs.index.HatIndex.of.Given as goal

-- the targets so far
abbrev pub invariant-loop-t : goal.invariant-loop-t
invariant-loop-t l = AreTargets (map (λ blocks. blocks.now) l.tables) l.heads l.targets.items l.t
