use Rattle.std.proofs.Common.{arith}
use Rattle.std.proofs.lemmas.List.{length-map}
use Rattle.block_table.specs.Table.{Numbered}
use Rattle.project_spec.specs.Refusals.{Cycles}
use Rattle.block_checks.specs.Kept.{blocks_in}
use Rattle.block_checks.specs.Stops.{StopsAt}
use Rattle.block_checks.proofs.Orders.{exit, table_held, stops_at, before_more, before_all, kept_more}
use Rattle.block_checks.proofs.test_order.link_all.Goals as goal

pub returns-in_err-linked-clause-stop : goal.returns-in_err-linked-clause-stop
returns-in_err-linked-clause-stop c =
    let stop = c.in_err-linked.field-0.0 in
    exit c.from_residual.result stop (StopsAt (blocks_in c.args.tables.now) Cycles) c.from_residual.ensures.1
    (stops_at (blocks_in c.args.tables.now) Cycles c.loop-target.target c.index-tables-target.result.blocks stop c.loop-target.invariant.passes (table_held c.args.tables.now c.loop-target.target c.index-tables-target.result c.loop-target-test.true c.index-tables-target.is) c.in_err-linked.ensures.stop)

pub loop-target-preserved : goal.loop-target-preserved
loop-target-preserved c = record {
  kept = rw c.in_ok-push.ensures.items (kept_more c.args.tables.now c.loop-target.links.items c.loop-target.target c.index-tables-target.result c.in_ok-linked.linked c.loop-target-test.true c.index-tables-target.is c.loop-target.invariant.kept c.in_ok-linked.ensures.kept);
  passes = before_more (blocks_in c.args.tables.now) Cycles c.loop-target.target c.index-tables-target.result.blocks c.loop-target.invariant.passes (table_held c.args.tables.now c.loop-target.target c.index-tables-target.result c.loop-target-test.true c.index-tables-target.is) c.in_ok-linked.ensures.passes;
}

pub returns-clause-passes : goal.returns-clause-passes
returns-clause-passes c =
    let n = length-map c.args.tables.now (λ (t : Numbered). t.blocks) in
    let t = c.loop-target-test.false in
    before_all (blocks_in c.args.tables.now) Cycles c.loop-target.target c.loop-target.invariant.passes (omega arith)
