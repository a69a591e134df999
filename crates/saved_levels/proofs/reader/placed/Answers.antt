-- The top level is the last one that is told.
use Rattle.std.proofs.Common.{◌≡◌, ◌∷◌, ◌==◌, ◌+◌, None, false, true, length, map, reverse, sym, ap, ◌∙◌, subst, rules}
use Rattle.std.proofs.lemmas.List.{length-map, length-reverse}
use Rattle.std.proofs.lemmas.Result.{IfOk-weaker}
use Rattle.saved_parts.specs.Telling.{kept_of, level_of}
use Rattle.saved_levels.specs.Read.{top_first}
use Rattle.saved_levels.specs.Standing.{Places, Wholes, whole_of}
use Rattle.saved_levels.proofs.Placing.{told_turned, placed_off, placed_block, placed_nothing}
use Rattle.saved_levels.proofs.reader.placed.Goals as goal

pub returns-then-not-fits : goal.returns-then-not-fits
returns-then-not-fits c =
    let rest = c.pop.new.self.items in
    let turned = told_turned level_of c.args.told.items rest c.in-Some.top c.in-Some.ensures.items in
    let off : c.fits.result ≡ false = search rules in
    subst (λ ls. Places c.args.site.now c.args.waiting.now c.args.serial c.args.status ls None) (sym turned)
    (placed_off c.args.site.now c.args.waiting.now c.args.serial c.args.status (kept_of c.in-Some.top.kept) c.in-Some.top.block (reverse (map level_of rest)) (sym c.fits.ensures ∙ off))

pub returns-in-Some-block : goal.returns-in-Some-block
returns-in-Some-block c =
    let rest = c.pop.new.self.items in
    let turned = told_turned level_of c.args.told.items rest c.in-Some.top c.in-Some.ensures.items in
    let on : c.fits.result ≡ true = search rules in
    let all = map level_of rest in
    let k = kept_of c.in-Some.top.kept in
    IfOk-weaker c.with_block.result _ _
    (λ o h. subst (λ ls. Places c.args.site.now c.args.waiting.now c.args.serial c.args.status ls (top_first o))
    (ap (λ b. record { block = b; kept = k } ∷ reverse all) (sym c.in-Some-block.is) ∙ sym turned)
    (placed_block c.args.site.now c.args.waiting.now c.args.serial c.args.status k c.in-Some-block.wanted all (top_first o) (sym c.fits.ensures ∙ on)
    (subst (λ n. Wholes c.args.site.now (n + 1) (whole_of c.args.site.now c.args.waiting.now.clock k c.in-Some-block.wanted all) (top_first o)) (sym (length-map rest level_of)) h)))
    c.with_block.ensures

pub returns-in-None-block : goal.returns-in-None-block
returns-in-None-block c =
    let rest = c.pop.new.self.items in
    let turned = told_turned level_of c.args.told.items rest c.in-Some.top c.in-Some.ensures.items in
    let on : c.fits.result ≡ true = search rules in
    let all = map level_of rest in
    let k = kept_of c.in-Some.top.kept in
    IfOk-weaker c.with_nothing.result _ _
    (λ o h. subst (λ ls. Places c.args.site.now c.args.waiting.now c.args.serial c.args.status ls (top_first o))
    (ap (λ b. record { block = b; kept = k } ∷ reverse all) (sym c.in-None-block.is) ∙ sym turned)
    (placed_nothing c.args.site.now c.args.waiting.now c.args.serial c.args.status k (reverse all) c.is_empty.result (top_first o) (sym c.fits.ensures ∙ on)
    (c.is_empty.ensures ∙ ap (λ xs. length xs == 0) c.as_slice.ensures.value ∙ ap (λ n. n == 0) (sym (length-reverse all ∙ length-map rest level_of))) h))
    c.with_nothing.ensures
