use Rattle.std.proofs.Common.{◌≡◌, take}
use Rattle.std.specs.List.{count_by, sum_by}
use Rattle.project_spec.specs.Linked.{is_head}
use Rattle.project_check.specs.Loaded.{tables_of}
use Rattle.report_command.proofs.project_counts.scripts_in.Given as goal

-- the heads of the targets so far
abbrev pub invariant-loop-target : goal.invariant-loop-target
invariant-loop-target l = l.total ≡ sum_by (count_by is_head) (take l.target (tables_of l.project))
