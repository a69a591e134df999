use Rattle.std.proofs.Common.{◌≡◌, ◌++◌, drop, map}
use Rattle.project_check.specs.Heads.{head_numbers}
use Rattle.project_check.proofs.heads.all_heads.Given as goal

-- the heads of the targets so far, and those that are left
abbrev pub invariant-loop-table : goal.invariant-loop-table
invariant-loop-table l = l.all.items ++ map head_numbers (map (λ t. t.blocks) (drop l.table-index l.tables)) ≡ map head_numbers (map (λ t. t.blocks) l.tables)
