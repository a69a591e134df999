use Rattle.std.proofs.Common.{◌≡◌, ◌%◌, get_or, sym, ap, ◌∙◌, arith}
use Rattle.std.specs.Prelude.{◌==◌}
use Rattle.std.specs.List.{position}
use Rattle.std.proofs.lemmas.Bool.{eqb-true}
use Rattle.std.proofs.lemmas.List.{get_or_default}
use Rattle.std.proofs.lemmas.Option.{slice_get_within, get_or_from_slice_get}
use Rattle.targets.specs.Hints.{slots}
use Rattle.targets.proofs.Hinted.{found_at_hint}
use Rattle.targets.proofs.order.Order.place.Goals as goal

pub returns-then-eq : goal.returns-then-eq
returns-then-eq c =
    let hints = c.self.inside.hints.items in
    let ids = c.self.inside.ids in
    let guess = c.index-guess.result.now in
    let hinted : guess ≡ get_or hints (c.args.id % slots) 0 =
    c.index-guess.ensures ∙ get_or_default hints c.slot.result guess 0 (omega (arith, c.slot.ensures.within, c.self.invariant.0))
    ∙ ap (λ k. get_or hints k 0) c.slot.ensures.place in
    let own : get_or ids guess 0 ≡ c.args.id =
    get_or_from_slice_get ids guess c.in-Some.own.now 0 (sym c.in-Some.ensures) ∙ eqb-true _ _ (sym c.eq.ensures ∙ c.if-eq.true) in
    sym (ap (position (λ n. n == c.args.id)) (sym c.self.view_is)
    ∙ found_at_hint hints ids c.args.id guess c.self.invariant.1 hinted (slice_get_within ids guess c.in-Some.own.now (sym c.in-Some.ensures)) own)
