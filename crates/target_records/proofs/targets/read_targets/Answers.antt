use Rattle.std.proofs.Common.{◌+◌, map, length, drop, ap, arith}
use Rattle.std.proofs.lemmas.List.{length-map, length_push}
use Rattle.project_json.specs.View.{tree}
use Rattle.project_spec.specs.Targets.{target_of}
use Rattle.target_records.proofs.Sizes.{item-size, length-trees, drop_turn, after_turn}
use Rattle.target_records.proofs.targets.read_targets.Goals as goal

pub target-requires : goal.target-requires
target-requires c = omega (arith, item-size tree c.args.items.now c.loop-i.i c.index-items-i.result c.loop-i-test.true c.index-items-i.is, c.requires)

pub loop-i-preserved : goal.loop-i-preserved
loop-i-preserved c = record {
  read = after_turn target_of c.args.place.now c.item.result c.loop-i.i c.loop-i.targets.items c.push.new.self.items c.in_ok-target.target (tree c.index-items-i.result) (map tree (drop c.loop-i.i c.args.items.now)) (map tree (drop (c.loop-i.i + 1) c.args.items.now)) _ (ap (map tree) (drop_turn c.args.items.now c.loop-i.i c.index-items-i.result c.loop-i-test.true c.index-items-i.is)) c.item.ensures c.in_ok-target.ensures c.in_ok-push.ensures.items c.loop-i.invariant.read;
  count = omega (arith, ap length c.in_ok-push.ensures.items, length_push c.loop-i.targets.items c.in_ok-target.target, c.loop-i.invariant.count);
}

pub new-requires : goal.new-requires
new-requires c = omega (arith, length-trees (map tree c.args.items.now), length-map c.args.items.now tree, c.requires, c.loop-i.invariant.count)
