use Rattle.std.proofs.Common.{◌≡◌, drop, map}
use Rattle.project_json.specs.View.{field}
use Rattle.json_shapes.specs.Shapes.{each_member}
use Rattle.json_shapes.specs.Each.{after}
use Rattle.project_spec.specs.Blocks.{input_of}
use Rattle.block_table.specs.FileBlock.{named_input}
use Rattle.block_table.proofs.input_list.each_input.Given as goal

-- the inputs so far, and those that are left
abbrev pub invariant-loop-member : goal.invariant-loop-member
invariant-loop-member l = after (map named_input l.inputs) (each_member (input_of l.ids) l.place (map field (drop l.member-index l.members))) ≡ each_member (input_of l.ids) l.place (map field l.members)
