use Rattle.std.proofs.Common.{◌≡◌, sym, ap, ◌∙◌, subst, rules}
use Rattle.machine_spec.specs.BubbleText.{IsShort, most_characters}
use Rattle.saved_stores.proofs.Cutting.{take_all}
use Rattle.saved_stores.proofs.bubbles.bubble.Goals as goal

pub returns : goal.returns
returns c =
    let text : c.as_str.result.now ≡ c.args.told.text = search rules in
    let same : c.in_ok-text.text ≡ c.args.told.text = c.in_ok-text.ensures ∙ take_all most_characters c.as_str.result.now (subst IsShort (sym text) c.requires) ∙ text in
    ap (λ t. record { kind = c.args.told.kind; text = t; usage = c.args.told.usage }) same
