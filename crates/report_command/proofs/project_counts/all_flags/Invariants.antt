use Rattle.std.proofs.Common.{take, map}
use Rattle.std.specs.List.{AllZip}
use Rattle.block_checks.specs.Kept.{AreChecked}
use Rattle.project_check.specs.Loaded.{tables_of}
use Rattle.report_command.proofs.project_counts.all_flags.Given as goal

-- the flags of the targets so far
abbrev pub invariant-loop-target : goal.invariant-loop-target
invariant-loop-target l = AllZip AreChecked (take l.target (tables_of l.project)) (map (λ f. f.items) l.all.items)
