use Rattle.std.proofs.Common.{◌≡◌, length, drop, map}
use Rattle.project_json.specs.View.{tree}
use Rattle.project_spec.specs.Targets.{target_of}
use Rattle.json_shapes.specs.Shapes.{each, each_from}
use Rattle.json_shapes.specs.Each.{after}
use Rattle.target_records.proofs.targets.read_targets.Given as goal

-- the targets so far, and those that are left
abbrev pub invariant-loop-i : goal.invariant-loop-i
invariant-loop-i l = record {
  read : after l.targets.items (each_from l.i target_of l.place (map tree (drop l.i l.items))) ≡ each target_of l.place (map tree l.items);
  count : length l.targets.items ≡ l.i;
}
