use Rattle.std.proofs.Common.{◌<◌, length, sym, ap, subst, arith}
use Rattle.project_spec.specs.Refusals.{Inputs}
use Rattle.block_checks.specs.Kept.{AreChecked}
use Rattle.block_checks.specs.Stops.{at_place, PassesIn, StopsIn}
use Rattle.block_checks.proofs.Lists.{read}
use Rattle.block_checks.proofs.Orders.{exit, within, below_more, below_all, missing_passes, not_flagged, stops_missing}
use Rattle.block_checks.proofs.inputs.test_inputs.Goals as goal
use Rattle.block_checks.proofs.inputs.test_inputs.Goals.{then-is_checked+in_ok-test_block, else-is_checked}

pub returns-in_err-test_block-clause-stop : goal.returns-in_err-test_block-clause-stop
returns-in_err-test_block-clause-stop c =
    let blocks = c.blocks-blocks.result.now in
    let e = c.blocks-blocks.ensures.blocks in
    let n = ap length e in
    let end = c.len-block-end.ensures.blocks in
    let t = c.loop-block-test.true in
    let held = read blocks c.loop-block.block c.index-blocks-block.result (omega arith) c.index-blocks-block.is in
    let checked : AreChecked blocks c.args.links.now.checked = subst (λ bs. AreChecked bs c.args.links.now.checked) (sym e) c.requires.checked in
    let stop = c.in_err-test_block.field-0.0 in
    exit c.from_residual.result stop (StopsIn c.args.target c.args.table.now.blocks Inputs) c.from_residual.ensures.1
    (subst (λ bs. StopsIn c.args.target bs Inputs stop) e (stops_missing c.args.target blocks c.args.links.now.checked c.loop-block.block c.index-blocks-block.result c.is_checked.result stop c.loop-block.invariant held checked c.is_checked.ensures c.if-is_checked.true c.in_err-test_block.ensures.stop))

pub loop-block-preserved : goal.loop-block-preserved
loop-block-preserved c =
    let blocks = c.blocks-blocks.result.now in
    let e = c.blocks-blocks.ensures.blocks in
    let n = ap length e in
    let end = c.len-block-end.ensures.blocks in
    let t = c.loop-block-test.true in
    let lt : c.loop-block.block < length blocks = omega arith in
    let checked : AreChecked blocks c.args.links.now.checked = subst (λ bs. AreChecked bs c.args.links.now.checked) (sym e) c.requires.checked in
    elim c.if-is_checked.branch [
      | then-is_checked+in_ok-test_block w ↦
          below_more c.args.target blocks Inputs c.loop-block.block w.index-blocks-block.result c.loop-block.invariant (read blocks c.loop-block.block w.index-blocks-block.result lt w.index-blocks-block.is)
          (missing_passes blocks (at_place c.args.target c.loop-block.block) w.index-blocks-block.result w.in_ok-test_block.ensures.passes)
      | else-is_checked w ↦ (let b = within blocks c.loop-block.block lt in
          below_more c.args.target blocks Inputs c.loop-block.block b.0 c.loop-block.invariant b.1
          (λ r f. not_flagged blocks c.args.links.now.checked c.loop-block.block c.is_checked.result checked c.is_checked.ensures w.if-is_checked.false f.1))
    ]

pub returns-clause-passes : goal.returns-clause-passes
returns-clause-passes c =
    let blocks = c.blocks-blocks.result.now in
    let e = c.blocks-blocks.ensures.blocks in
    let n = ap length e in
    let end = c.len-block-end.ensures.blocks in
    let t = c.loop-block-test.false in
    subst (λ bs. PassesIn c.args.target bs Inputs) e (below_all c.args.target blocks Inputs c.loop-block.block c.loop-block.invariant (omega arith))
