use Rattle.std.proofs.Common.{◌≡◌, drop, map}
use Rattle.project_json.specs.View.{field}
use Rattle.project_spec.specs.Targets.{variable_of}
use Rattle.json_shapes.specs.Shapes.{each_member}
use Rattle.json_shapes.specs.Each.{after}
use Rattle.target_records.proofs.file_variables.each_variable.Given as goal

-- the variables so far, and those that are left
abbrev pub invariant-loop-member : goal.invariant-loop-member
invariant-loop-member l = after l.variables (each_member variable_of l.place (map field (drop l.member-index l.members))) ≡ each_member variable_of l.place (map field l.members)
