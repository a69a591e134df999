use Rattle.std.proofs.Common.{◌≡◌, drop, map}
use Rattle.project_json.specs.View.{field}
use Rattle.json_shapes.specs.Shapes.{each_member}
use Rattle.json_shapes.specs.Each.{after}
use Rattle.project_spec.specs.Blocks.{block_of}
use Rattle.block_table.specs.FileBlock.{block_in}
use Rattle.block_table.proofs.objects.each_block.Given as goal

-- the blocks so far, and those that are left
abbrev pub invariant-loop-member : goal.invariant-loop-member
invariant-loop-member l = after (map block_in l.blocks) (each_member (block_of l.ids) l.place (map field (drop l.member-index l.members))) ≡ each_member (block_of l.ids) l.place (map field l.members)
