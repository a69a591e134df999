use Rattle.std.proofs.Common.{◌≡◌, drop, map}
use Rattle.project_json.specs.View.{field}
use Rattle.json_shapes.specs.Shapes.{each_member}
use Rattle.json_shapes.specs.Each.{after}
use Rattle.project_spec.specs.Blocks.{field_of}
use Rattle.block_table.proofs.field_list.each_field.Given as goal

-- the fields so far, and those that are left
abbrev pub invariant-loop-member : goal.invariant-loop-member
invariant-loop-member l = after l.fields (each_member field_of l.place (map field (drop l.member-index l.members))) ≡ each_member field_of l.place (map field l.members)
