use Rattle.std.proofs.Common.{◌≡◌}
use Rattle.project_check.specs.Loaded.{ranks_at, sheet_at}
use Rattle.project_spec.specs.Trees.{script}
use Rattle.saved_spec.specs.Levels.{script_from}
use Rattle.saved_levels.proofs.Linked.{left_at}
use Rattle.saved_levels.proofs.chains.in_chain.Given as goal

-- the block is in the chain where it is in what is left of it
abbrev pub invariant-loop-at : goal.invariant-loop-at
invariant-loop-at l = script_from l.wanted (script (sheet_at l.target l.project) l.at) ≡ script_from l.wanted (script (sheet_at l.target l.project) l.fn.first)

abbrev pub decreases-loop-at : goal.decreases-loop-at
decreases-loop-at l = left_at (ranks_at l.target l.project) l.at
