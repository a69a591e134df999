use Rattle.std.proofs.Common.{◌≡◌, drop, map}
use Rattle.project_json.specs.View.{tree}
use Rattle.project_spec.specs.Targets.{costume_of}
use Rattle.json_shapes.specs.Shapes.{each, each_from}
use Rattle.json_shapes.specs.Each.{after}
use Rattle.target_records.proofs.costumes.each_costume.Given as goal

-- the costumes so far, and those that are left
abbrev pub invariant-loop-i : goal.invariant-loop-i
invariant-loop-i l = after l.costumes (each_from l.i costume_of l.place (map tree (drop l.i l.items))) ≡ each costume_of l.place (map tree l.items)
