use Rattle.std.proofs.Common.{◌≡◌, ◌+◌, ◌≤◌, drop, not}
use Rattle.std.specs.List.{count_by}
use Rattle.report_command.proofs.project_counts.loose_of.Given as goal

-- the loose blocks so far, and those that are left
abbrev pub invariant-loop-flag : goal.invariant-loop-flag
invariant-loop-flag l = record {
  seen : l.count + count_by not (drop l.flag-index l.flags) ≡ count_by not l.flags;
  within : l.count ≤ l.flag-index;
}
