use Rattle.std.proofs.Common.{◌+◌, map, drop, ap, arith}
use Rattle.project_json.specs.View.{tree}
use Rattle.project_spec.specs.Reading.{table_in}
use Rattle.target_records.proofs.Sizes.{item-size, drop_turn, after_turn}
use Rattle.project_check.proofs.file.tables.Goals as goal

pub table-requires : goal.table-requires
table-requires c = omega (arith, item-size tree c.args.targets.now c.loop-i.i c.index-targets-i.result c.loop-i-test.true c.index-targets-i.is, c.requires)

pub loop-i-preserved : goal.loop-i-preserved
loop-i-preserved c = after_turn table_in c.args.place.now c.item.result c.loop-i.i c.loop-i.tables.items c.push.new.self.items c.in_ok-table.table (tree c.index-targets-i.result) (map tree (drop c.loop-i.i c.args.targets.now)) (map tree (drop (c.loop-i.i + 1) c.args.targets.now)) _ (ap (map tree) (drop_turn c.args.targets.now c.loop-i.i c.index-targets-i.result c.loop-i-test.true c.index-targets-i.is)) c.item.ensures c.in_ok-table.ensures c.in_ok-push.ensures.items c.loop-i.invariant
