use Rattle.std.proofs.Common.{◌≡◌, ◌++◌, drop}
use Rattle.std.specs.List.{enumerate_from, filter_map}
use Rattle.project_check.specs.Heads.{head_number, head_numbers}
use Rattle.project_check.proofs.heads.heads.Given as goal

-- the heads so far, and those that are left
abbrev pub invariant-loop-k : goal.invariant-loop-k
invariant-loop-k l = l.heads ++ filter_map head_number (enumerate_from l.k (drop l.k l.blocks)) ≡ head_numbers l.blocks
