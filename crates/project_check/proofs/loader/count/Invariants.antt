use Rattle.std.proofs.Common.{◌≡◌, ◌+◌, drop, length}
use Rattle.std.specs.List.{sum_by}
use Rattle.project_check.proofs.loader.count.Given as goal

-- the blocks so far, and those that are left
abbrev pub invariant-loop-table : goal.invariant-loop-table
invariant-loop-table l = l.total + sum_by (λ t. length t.blocks) (drop l.table-index l.tables) ≡ sum_by (λ t. length t.blocks) l.tables
