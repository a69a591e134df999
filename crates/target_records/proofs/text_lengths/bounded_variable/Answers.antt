use Rattle.std.proofs.Common.{◌≡◌, ◌∷◌, codes, ap, sym, ◌∙◌}
use Rattle.std.proofs.lemmas.Result.{err_from_is_err_and}
use Rattle.project_spec.specs.FileValues.{value_in}
use Rattle.project_spec.specs.Limits.{value_measures, first_too_many}
use Rattle.target_records.proofs.Counts.{bounds_stop, second_place}
use Rattle.target_records.proofs.text_lengths.bounded_variable.Goals as goal

pub returns-in_err-value : goal.returns-in_err-value
returns-in_err-value c =
    let p = err_from_is_err_and c.from_residual.result c.from_residual.ensures.1 in
    let here : c.item.result ≡ codes "1" ∷ c.variable.inside.id ∷ c.args.place.now = second_place _ _ _ _ _ c.item.ensures c.member.ensures c.as_str.ensures in
    rw (p.1, p.2, ← c.variable.view_is) (bounds_stop (λ v. v) (λ v. v) _ _ _ _ _ c.in_err-value.ensures (λ q h. ap (λ at. first_too_many (value_measures at (value_in c.variable.inside.value))) (sym here) ∙ h))
