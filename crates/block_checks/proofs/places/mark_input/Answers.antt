use Rattle.std.proofs.Common.{◌≡◌, Some, sym, ap, ◌∙◌}
use Rattle.std.proofs.lemmas.Bool.{ltb-true, ltb-false}
use Rattle.std.proofs.lemmas.Option.{slice_get_past}
use Rattle.project_spec.specs.Linked.{In}
use Rattle.block_checks.specs.Rows.{known, link_in}
use Rattle.block_checks.proofs.Lists.{read}
use Rattle.block_checks.proofs.Marking.{marking_at, marking_past}
use Rattle.block_checks.proofs.places.mark_input.Goals as goal

pub returns-in-Some-get : goal.returns-in-Some-get
returns-in-Some-get c =
    let k : known (link_in c.args.input.now) ≡ Some c.in-Some.place = ap known (sym c.link_in.ensures) ∙ sym c.in-Some.ensures in
    let x = c.in-Some-get.ensures.lookup in
    let held = read c.args.blocks.now c.in-Some.place c.in-Some-get.block.now (ltb-true _ _ (sym x.0)) x.1 in
    marking_at _ c.args.holder.now c.in-Some-get.block.now (In c.args.name.now) _ c.in-Some.place c.fits_in.result _ _ k held c.fits_in.ensures (c.mark.ensures c.in-Some-get.block.now)

pub returns-in_default-get : goal.returns-in_default-get
returns-in_default-get c =
    let k : known (link_in c.args.input.now) ≡ Some c.in-Some.place = ap known (sym c.link_in.ensures) ∙ sym c.in-Some.ensures in
    let x = c.in_default-get.ensures.lookup in
    marking_past c.args.blocks.now c.args.holder.now (In c.args.name.now) _ c.in-Some.place _ k (slice_get_past c.args.blocks.now c.in-Some.place (ltb-false _ _ (sym x.0)))
