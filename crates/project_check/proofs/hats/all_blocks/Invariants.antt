use Rattle.std.proofs.Common.{◌≡◌, ◌++◌, drop, map}
use Rattle.project_check.proofs.hats.all_blocks.Given as goal

-- the blocks of the targets so far, and those that are left
abbrev pub invariant-loop-table : goal.invariant-loop-table
invariant-loop-table l = map (λ blocks. blocks.now) l.all.items ++ map (λ t. t.blocks) (drop l.table-index l.tables) ≡ map (λ t. t.blocks) l.tables
