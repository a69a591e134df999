use Rattle.std.proofs.Common.{◌≡◌, drop, map}
use Rattle.project_json.specs.View.{tree}
use Rattle.project_spec.specs.FileValues.{value_in}
use Rattle.project_spec.specs.Values as told
use Rattle.json_shapes.specs.Shapes.{each, each_from}
use Rattle.json_shapes.specs.Each.{after}
use Rattle.target_records.proofs.file_lists.each_value.Given as goal

-- the items so far, and those that are left
abbrev pub invariant-loop-i : goal.invariant-loop-i
invariant-loop-i l = after (map value_in l.values) (each_from l.i told.value l.place (map tree (drop l.i l.items))) ≡ each told.value l.place (map tree l.items)
