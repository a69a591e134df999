use Rattle.std.proofs.Common.{◌==◌, filter, not, rules, ap, ◌∙◌}
use Rattle.std.proofs.lemmas.Fn.{filter_same}
use Rattle.devices.proofs.timers.without.Goals as goal

pub returns : goal.returns
returns c =
    c.from_vec.ensures
    ∙ filter_same _ (λ t. not (t.of == c.args.of)) _ (λ x b f' e. search rules) _ _ c.retain.ensures.filtered
    ∙ ap (filter (λ t. not (t.of == c.args.of))) c.into_vec-timers.ensures
