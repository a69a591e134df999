use Rattle.std.proofs.Common.{take}
use Rattle.saved_checks.specs.Originals.{AreCounted}
use Rattle.saved_checks.proofs.originals.counts.Given as goal

-- those of the instances so far
abbrev pub invariant-loop-instance : goal.invariant-loop-instance
invariant-loop-instance l = AreCounted (take l.instance-index l.instances) l.targets l.counts.items
