use Rattle.std.proofs.Common.{◌≡◌, ℕ, ◌+◌, ◌-◌, ◌%◌, subst, ap, ◌∙◌, arith}
use Rattle.std.proofs.lemmas.List.{get_or_default}
use Rattle.targets.specs.Hints.{slots}
use Rattle.targets.proofs.Hinted.{HintedFrom, hinted_more}
use Rattle.targets.proofs.hints.note.Goals as goal

pub loop-place-init : goal.loop-place-init
loop-place-init c = λ j le lt. absurd (omega arith)

pub loop-place-preserved : goal.loop-place-preserved
loop-place-preserved c =
    let P : ℕ → Type 0 = λ k. HintedFrom k c.loop-place.hints c.args.ids.now in
    let again : c.loop-place.place ≡ c.loop-place.place - 1 + 1 = omega arith in
    hinted_more (c.loop-place.place - 1) c.slot.result c.loop-place.hints c.args.ids.now
    (omega (arith, c.loop-place.auto.hints, c.slot.ensures.within, c.requires))
    (c.slot.ensures.place ∙ ap (λ n. n % slots) (c.index-ids-place.is ∙ get_or_default c.args.ids.now (c.loop-place.place - 1) c.index-ids-place.result 0 (omega arith)))
    (subst P again c.loop-place.invariant)

pub returns : goal.returns
returns c = λ j lt. c.loop-place.invariant j (omega arith) lt
