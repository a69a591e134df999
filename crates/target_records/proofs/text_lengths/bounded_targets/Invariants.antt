use Rattle.std.proofs.Common.{◌≡◌, ◌++◌, length}
use Rattle.std.specs.Prelude.{flat_map, ℕ}
use Rattle.std.specs.List.{All, enumerate_from}
use Rattle.std.specs.Vec.Iter.{into_iter_items}
use Rattle.project_spec.specs.Limits.{target_measures, target_place, first_too_many}
use Rattle.machine_spec.specs.declared.records.TargetRecord.{TargetRecord}
use Rattle.target_records.specs.Bounds.{lengths_in}
use Rattle.target_records.specs.Held.{IsSmall, HasShortLists}
use Rattle.target_records.proofs.text_lengths.bounded_targets.Given as goal

-- the targets so far, and those that are left
abbrev pub invariant-loop-target : goal.invariant-loop-target
invariant-loop-target l = record {
  all : l.bounded.items ++ into_iter_items l.target-iterator ≡ l.fn.targets;
  many : first_too_many (flat_map (λ (x : ℕ × TargetRecord). target_measures (target_place x.0) x.1) (enumerate_from (length l.bounded.items) (into_iter_items l.target-iterator))) ≡ first_too_many (lengths_in l.fn.targets);
  small : All IsSmall l.bounded.items;
  short : All HasShortLists l.bounded.items;
}
