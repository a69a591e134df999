use Rattle.std.proofs.Common.{◌≡◌, Some, sym, ap, ◌∙◌}
use Rattle.std.proofs.lemmas.Bool.{ltb-true, ltb-false}
use Rattle.std.proofs.lemmas.Option.{slice_get_past}
use Rattle.project_spec.specs.Linked.{Behind}
use Rattle.block_checks.specs.Rows.{known}
use Rattle.block_checks.proofs.Lists.{read}
use Rattle.block_checks.proofs.Marking.{marking_at, marking_past}
use Rattle.block_checks.proofs.places.mark_next.Goals as goal

pub returns-in-Some-get : goal.returns-in-Some-get
returns-in-Some-get c =
    let k : known c.args.holder.now.next ≡ Some c.in-Some.place = ap known (sym c.as_ref.ensures.value) ∙ sym c.in-Some.ensures in
    let x = c.in-Some-get.ensures.lookup in
    let held = read c.args.blocks.now c.in-Some.place c.in-Some-get.block.now (ltb-true _ _ (sym x.0)) x.1 in
    marking_at _ c.args.holder.now c.in-Some-get.block.now Behind _ c.in-Some.place c.has_role.result _ _ k held c.has_role.ensures (c.mark.ensures c.in-Some-get.block.now)

pub returns-in_default-get : goal.returns-in_default-get
returns-in_default-get c =
    let k : known c.args.holder.now.next ≡ Some c.in-Some.place = ap known (sym c.as_ref.ensures.value) ∙ sym c.in-Some.ensures in
    let x = c.in_default-get.ensures.lookup in
    marking_past c.args.blocks.now c.args.holder.now Behind _ c.in-Some.place _ k (slice_get_past c.args.blocks.now c.in-Some.place (ltb-false _ _ (sym x.0)))
