use Rattle.std.proofs.Common.{◌≡◌, ◌+◌, ◌≤◌, drop}
use Rattle.std.specs.List.{count_by}
use Rattle.project_spec.specs.Linked.{is_head}
use Rattle.report_command.proofs.project_counts.heads_of.Given as goal

-- the heads so far, and those that are left
abbrev pub invariant-loop-block : goal.invariant-loop-block
invariant-loop-block l = record {
  seen : l.count + count_by is_head (drop l.block-index l.blocks) ≡ count_by is_head l.blocks;
  within : l.count ≤ l.block-index;
}
