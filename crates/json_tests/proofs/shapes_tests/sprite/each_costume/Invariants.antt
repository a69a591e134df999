use Rattle.std.proofs.Common.{◌≡◌, drop, map}
use Rattle.project_json.specs.View.{tree}
use Rattle.json_shapes.specs.Shapes.{each, each_from}
use Rattle.json_shapes.specs.Each.{after}
use Rattle.json_shapes.specs.Example.{costume_of}
use Rattle.json_tests.proofs.shapes_tests.sprite.each_costume.Given as goal

-- the costumes so far, and those that are left
abbrev pub invariant-loop-i : goal.invariant-loop-i
invariant-loop-i l = after l.costumes.items (each_from l.i costume_of l.place (map tree (drop l.i l.items))) ≡ each costume_of l.place (map tree l.items)
