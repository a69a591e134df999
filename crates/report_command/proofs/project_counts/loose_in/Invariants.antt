use Rattle.std.proofs.Common.{◌≡◌, ◌+◌, drop, not}
use Rattle.std.specs.List.{count_by, sum_by}
use Rattle.report_command.proofs.project_counts.loose_in.Given as goal

-- the loose blocks of the targets so far, and those that are left
abbrev pub invariant-loop-flags : goal.invariant-loop-flags
invariant-loop-flags l = l.total + sum_by (λ f. count_by not f.items) (drop l.flags-index l.all) ≡ sum_by (λ f. count_by not f.items) l.all
