use Rattle.std.proofs.Common.{◌≡◌, ◌+◌, ◌≤◌, drop}
use Rattle.std.specs.List.{count_by}
use Rattle.machine_spec.specs.declared.records.TargetRecord.{TargetRecord}
use Rattle.target_records.proofs.file_targets.count_stages.Given as goal

-- the stages so far, and those that are left
abbrev pub invariant-loop-target : goal.invariant-loop-target
invariant-loop-target l = record {
  seen : l.count + count_by (λ (t : TargetRecord). t.is_stage) (drop l.target-index l.targets) ≡ count_by (λ (t : TargetRecord). t.is_stage) l.targets;
  within : l.count ≤ l.target-index;
}
