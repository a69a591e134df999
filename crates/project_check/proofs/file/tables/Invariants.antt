use Rattle.std.proofs.Common.{◌≡◌, drop, map}
use Rattle.project_json.specs.View.{tree}
use Rattle.json_shapes.specs.Shapes.{each, each_from}
use Rattle.json_shapes.specs.Each.{after}
use Rattle.project_spec.specs.Reading.{table_in}
use Rattle.project_check.proofs.file.tables.Given as goal

-- the tables so far, and those that are left
abbrev pub invariant-loop-i : goal.invariant-loop-i
invariant-loop-i l = after l.tables.items (each_from l.i table_in l.place (map tree (drop l.i l.targets))) ≡ each table_in l.place (map tree l.targets)
