use Rattle.std.proofs.Common.{length, ap, subst, arith}
use Rattle.block_checks.specs.Stops.{loose_test, PassesIn, StopsIn}
use Rattle.block_checks.proofs.Lists.{read}
use Rattle.block_checks.proofs.Orders.{exit, below_more, below_all, stops_in}
use Rattle.block_checks.proofs.loose_blocks.test_loose.Goals as goal

pub returns-in_err-test_block-clause-stop : goal.returns-in_err-test_block-clause-stop
returns-in_err-test_block-clause-stop c =
    let blocks = c.blocks-blocks.result.now in
    let e = c.blocks-blocks.ensures.blocks in
    let n = ap length e in
    let end = c.len-block-end.ensures.blocks in
    let t = c.loop-block-test.true in
    let test = loose_test c.args.test in
    let held = read blocks c.loop-block.block c.index-blocks-block.result (omega arith) c.index-blocks-block.is in
    let stop = c.in_err-test_block.field-0.0 in
    exit c.from_residual.result stop (StopsIn c.args.target c.args.table.now.blocks test) c.from_residual.ensures.1
    (subst (λ bs. StopsIn c.args.target bs test stop) e (stops_in c.args.target blocks test c.loop-block.block c.index-blocks-block.result stop c.loop-block.invariant held c.in_err-test_block.ensures.stop))

pub loop-block-preserved : goal.loop-block-preserved
loop-block-preserved c =
    let blocks = c.blocks-blocks.result.now in
    let e = c.blocks-blocks.ensures.blocks in
    let n = ap length e in
    let end = c.len-block-end.ensures.blocks in
    let t = c.loop-block-test.true in
    below_more c.args.target blocks (loose_test c.args.test) c.loop-block.block c.index-blocks-block.result c.loop-block.invariant (read blocks c.loop-block.block c.index-blocks-block.result (omega arith) c.index-blocks-block.is) (c.in_ok-test_block.ensures.passes blocks)

pub returns-clause-passes : goal.returns-clause-passes
returns-clause-passes c =
    let blocks = c.blocks-blocks.result.now in
    let e = c.blocks-blocks.ensures.blocks in
    let n = ap length e in
    let end = c.len-block-end.ensures.blocks in
    let t = c.loop-block-test.false in
    subst (λ bs. PassesIn c.args.target bs (loose_test c.args.test)) e (below_all c.args.target blocks (loose_test c.args.test) c.loop-block.block c.loop-block.invariant (omega arith))
