use Rattle.std.proofs.Common.{◌==◌, filter, not, rules, ap, ◌∙◌}
use Rattle.std.proofs.lemmas.Fn.{filter_same}
use Rattle.devices.proofs.questions.without.Goals as goal

pub returns : goal.returns
returns c =
    c.from_vec.ensures
    ∙ filter_same _ (λ q. not (q.of == c.args.of)) _ (λ x b f' t. search rules) _ _ c.retain.ensures.filtered
    ∙ ap (filter (λ q. not (q.of == c.args.of))) c.into_vec-questions.ensures
