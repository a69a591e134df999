use Rattle.std.proofs.Common.{arith}
use Rattle.std.proofs.lemmas.List.{length-map}
use Rattle.block_table.specs.Table.{Numbered}
use Rattle.block_checks.specs.Kept.{blocks_in, IsKept}
use Rattle.block_checks.specs.Stops.{linked_test, StopsAt}
use Rattle.block_checks.proofs.Lists.{read, zip_length, zip_at}
use Rattle.block_checks.proofs.Orders.{exit, table_held, stops_at, before_more, before_all}
use Rattle.block_checks.proofs.test_order.test_all_linked.Goals as goal

pub bounds-links-target : goal.bounds-links-target
bounds-links-target c =
    let n = length-map c.args.tables.now (λ (t : Numbered). t.blocks) in
    let m = zip_length IsKept (blocks_in c.args.tables.now) c.args.links.now c.requires.kept in
    let t = c.loop-target-test.true in
    omega arith

pub test_target-requires : goal.test_target-requires
test_target-requires c =
    let n = length-map c.args.tables.now (λ (t : Numbered). t.blocks) in
    let m = zip_length IsKept (blocks_in c.args.tables.now) c.args.links.now c.requires.kept in
    let t = c.loop-target-test.true in
    zip_at IsKept (blocks_in c.args.tables.now) c.args.links.now c.loop-target.target c.index-tables-target.result.blocks c.index-links-target.result c.requires.kept (table_held c.args.tables.now c.loop-target.target c.index-tables-target.result c.loop-target-test.true c.index-tables-target.is) (read c.args.links.now c.loop-target.target c.index-links-target.result (omega arith) c.index-links-target.is)

pub returns-in_err-test_target-clause-stop : goal.returns-in_err-test_target-clause-stop
returns-in_err-test_target-clause-stop c =
    let stop = c.in_err-test_target.field-0.0 in
    exit c.from_residual.result stop (StopsAt (blocks_in c.args.tables.now) (linked_test c.args.test)) c.from_residual.ensures.1
    (stops_at (blocks_in c.args.tables.now) (linked_test c.args.test) c.loop-target.target c.index-tables-target.result.blocks stop c.loop-target.invariant (table_held c.args.tables.now c.loop-target.target c.index-tables-target.result c.loop-target-test.true c.index-tables-target.is) c.in_err-test_target.ensures.stop)

pub loop-target-preserved : goal.loop-target-preserved
loop-target-preserved c = before_more (blocks_in c.args.tables.now) (linked_test c.args.test) c.loop-target.target c.index-tables-target.result.blocks c.loop-target.invariant (table_held c.args.tables.now c.loop-target.target c.index-tables-target.result c.loop-target-test.true c.index-tables-target.is) c.in_ok-test_target.ensures.passes

pub returns-clause-passes : goal.returns-clause-passes
returns-clause-passes c =
    let n = length-map c.args.tables.now (λ (t : Numbered). t.blocks) in
    let t = c.loop-target-test.false in
    before_all (blocks_in c.args.tables.now) (linked_test c.args.test) c.loop-target.target c.loop-target.invariant (omega arith)
