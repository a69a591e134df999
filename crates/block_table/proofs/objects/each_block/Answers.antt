use Rattle.std.proofs.Common.{◌+◌, drop, map, ap, ◌∙◌}
use Rattle.project_json.specs.View.{field}
use Rattle.json_shapes.specs.Shapes.{each_member}
use Rattle.json_shapes.specs.Each.{after}
use Rattle.project_spec.specs.Blocks.{block_of}
use Rattle.block_table.specs.FileBlock.{block_in}
use Rattle.block_table.proofs.Each.{after_member_at}
use Rattle.block_table.proofs.objects.each_block.Goals as goal

pub loop-member-preserved : goal.loop-member-preserved
loop-member-preserved c =
    let read = block_of c.args.ids.now in
    let i = c.loop-member.member-index in
    ap (λ bs. after (map block_in bs) (each_member read c.args.place.now (map field (drop (i + 1) c.args.members.now)))) c.in_ok-push.ensures.ok
    ∙ after_member_at read c.args.place.now field block_in c.loop-member.blocks c.in_ok-block.block c.args.members.now i c.member-item.result
    (each_member read c.args.place.now (map field c.args.members.now)) c.loop-member-test.true c.member-item.is c.in_ok-block.ensures c.loop-member.invariant
