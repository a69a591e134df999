use Rattle.std.proofs.Common.{filter, not, rules, ap, ◌∙◌}
use Rattle.std.proofs.lemmas.Fn.{filter_same}
use Rattle.machine_spec.specs.Sensing.{is_key}
use Rattle.devices.proofs.keys.without.Goals as goal

pub returns : goal.returns
returns c =
    c.from_vec.ensures
    ∙ filter_same _ (λ k. not (is_key c.args.key.now k)) _ (λ x b f' e. search rules) _ _ c.retain.ensures.filtered
    ∙ ap (filter (λ k. not (is_key c.args.key.now k))) c.into_vec-held.ensures
