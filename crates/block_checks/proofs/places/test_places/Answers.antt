use Rattle.std.proofs.Common.{Some, length, sym, ap, ◌∙◌, subst, arith, below_more}
use Rattle.project_spec.specs.Refusals.{Places}
use Rattle.block_checks.specs.Kept.{AreChecked}
use Rattle.block_checks.specs.Marks.{AreMarked}
use Rattle.block_checks.specs.Stops.{PassesIn, StopsIn}
use Rattle.block_checks.proofs.Lists.{read}
use Rattle.block_checks.proofs.Marking.{is_misfit}
use Rattle.block_checks.proofs.Orders.{below_all, places_below, stops_misplaced}
use Rattle.block_checks.proofs.places.test_places.Goals as goal

pub returns-then-index-clause-stop : goal.returns-then-index-clause-stop
returns-then-index-clause-stop c =
    let blocks = c.blocks-blocks.result.now in
    let block = c.index-blocks-block.result in
    let checked = c.args.links.now.checked in
    let marks = c.in_ok-marks.marks.items in
    let e = c.blocks-blocks.ensures.blocks in
    let n = ap length e in
    let end = c.len-block-end.ensures.blocks in
    let t = c.loop-block-test.true in
    let are : AreChecked blocks checked = subst (λ bs. AreChecked bs checked) (sym e) c.requires.checked in
    let marked : AreMarked blocks checked (length blocks) marks = rw c.checked.ensures at c.in_ok-marks.ensures in
    let each = marked.each in
    let held = read blocks c.loop-block.block block (omega arith) c.index-blocks-block.is in
    let is = read marks c.loop-block.block c.index.result.now (omega arith) c.index.ensures ∙ ap Some c.if-index.true in
    subst (λ bs. StopsIn c.args.target bs Places c.misplaced.result) e
    (stops_misplaced c.args.target blocks c.loop-block.block block c.misplaced.result
    (places_below c.args.target blocks checked marks c.loop-block.block are marked c.loop-block.invariant)
    held (is_misfit blocks checked marks c.loop-block.block block are marked held is) c.misplaced.ensures)

pub loop-block-preserved : goal.loop-block-preserved
loop-block-preserved c =
    let blocks = c.blocks-blocks.result.now in
    let marks = c.in_ok-marks.marks.items in
    let n = ap length c.blocks-blocks.ensures.blocks in
    let end = c.len-block-end.ensures.blocks in
    let t = c.loop-block-test.true in
    let each = c.in_ok-marks.ensures.each in
    let is = read marks c.loop-block.block c.index.result.now (omega arith) c.index.ensures ∙ ap Some c.if-index.false in
    below_more _ _ c.loop-block.invariant (λ h. cc)

pub returns-clause-passes : goal.returns-clause-passes
returns-clause-passes c =
    let blocks = c.blocks-blocks.result.now in
    let checked = c.args.links.now.checked in
    let marks = c.in_ok-marks.marks.items in
    let e = c.blocks-blocks.ensures.blocks in
    let n = ap length e in
    let end = c.len-block-end.ensures.blocks in
    let t = c.loop-block-test.false in
    let are : AreChecked blocks checked = subst (λ bs. AreChecked bs checked) (sym e) c.requires.checked in
    let marked : AreMarked blocks checked (length blocks) marks = rw c.checked.ensures at c.in_ok-marks.ensures in
    subst (λ bs. PassesIn c.args.target bs Places) e (below_all c.args.target blocks Places c.loop-block.block (places_below c.args.target blocks checked marks c.loop-block.block are marked c.loop-block.invariant) (omega arith))
