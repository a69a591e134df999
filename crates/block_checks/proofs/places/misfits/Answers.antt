use Rattle.std.proofs.Common.{◌≡◌, ◌+◌, false, length, get_or, sym, ap, ◌∙◌, subst, arith}
use Rattle.std.proofs.lemmas.Option.{slice_get-get_or}
use Rattle.block_checks.specs.Marks.{AreMarked}
use Rattle.block_checks.proofs.Lists.{read, written}
use Rattle.block_checks.proofs.Marking.{marked_more}
use Rattle.block_checks.proofs.places.misfits.Goals as goal

pub loop-place-preserved : goal.loop-place-preserved
loop-place-preserved c =
    let blocks = c.args.blocks.now in
    let checked = c.args.checked.now in
    let place = c.loop-place.place in
    let new = c.mark_checked.new.marks in
    let items = c.loop-place.marks.items in
    let lt = c.loop-place-test.true in
    let each = c.requires in
    let e = written new items c.loop-place.marks.len c.loop-place.marks.ok.0 (c.mark_checked.ensures.each ∙ ap length c.deref_mut.ensures.value) in
    subst (AreMarked blocks checked (place + 1)) (sym e)
    (marked_more blocks checked items new place c.index-blocks-place.result (get_or checked place false) (read blocks place c.index-blocks-place.result lt c.index-blocks-place.is) (slice_get-get_or checked place false (omega arith)) c.loop-place.invariant (rw c.deref_mut.ensures.value at c.mark_checked.ensures))

pub returns : goal.returns
returns c =
    let end = c.loop-place-test.false in
    let most = c.loop-place.auto.place-end in
    let e : c.loop-place.place ≡ length c.args.blocks.now = omega arith in
    subst (λ n. AreMarked c.args.blocks.now c.args.checked.now n c.loop-place.marks.items) e c.loop-place.invariant
