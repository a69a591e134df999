use Rattle.std.proofs.Common.{◌≡◌, ◌≤◌, ◌<◌, ◌∷◌, map, length, codes, Some, None, ap, ◌∙◌, subst, rules, arith}
use Rattle.std.proofs.lemmas.List.{length-map}
use Rattle.std.proofs.lemmas.Result.{err_from_is_err_and}
use Rattle.json_shapes.specs.Places.{path}
use Rattle.project_spec.specs.FileValues.{value_in}
use Rattle.project_spec.specs.Limits.{measure, list_measures, id_or_none, first_too_many}
use Rattle.machine_spec.specs.declared.records.ListRecord.{ListRecord}
use Rattle.target_records.specs.Bounds.{IsTooManyAt}
use Rattle.target_records.proofs.Counts.{bounds_stop, measure_over, list_items, second_place}
use Rattle.target_records.proofs.text_lengths.bounded_list.Goals as goal

pub returns-then-len-gt-MOST_ITEMS-clause-bounds : goal.returns-then-len-gt-MOST_ITEMS-clause-bounds
returns-then-len-gt-MOST_ITEMS-clause-bounds c =
    let here : c.item-place.result ≡ codes "1" ∷ c.list.inside.id ∷ c.args.place.now = second_place _ _ _ _ _ c.item-place.ensures c.member-list.ensures c.as_str.ensures in
    let many : 200000 < length (map value_in c.list.inside.items) = omega (arith, length-map c.list.inside.items value_in, c.if-len-gt-MOST_ITEMS.true, c.len.ensures) in
    rw (← c.list.view_is) (measure_over (λ l. l) _ c.too_many.result (measure (codes "1" ∷ c.list.inside.id ∷ c.args.place.now) (length (map value_in c.list.inside.items)) 200000) _ many (subst (λ at. IsTooManyAt (path at) c.too_many.result) here c.too_many.ensures))

pub returns-in_err-items-clause-bounds : goal.returns-in_err-items-clause-bounds
returns-in_err-items-clause-bounds c =
    let p = err_from_is_err_and c.from_residual.result c.from_residual.ensures.1 in
    let here : c.item-place.result ≡ codes "1" ∷ c.list.inside.id ∷ c.args.place.now = second_place _ _ _ _ _ c.item-place.ensures c.member-list.ensures c.as_str.ensures in
    let few : length (map value_in c.list.inside.items) ≤ 200000 = omega (arith, length-map c.list.inside.items value_in, c.if-len-gt-MOST_ITEMS.false, c.len.ensures) in
    let same : map value_in c.as_slice.result.now ≡ map value_in c.list.inside.items = search rules in
    rw (p.1, p.2, ← c.list.view_is) (bounds_stop (λ vs. vs) (λ l. l) _ _ _ _ _ c.in_err-items.ensures (λ q h. list_items c.args.place.now c.item-place.result c.list.inside.id c.list.inside.name (map value_in c.list.inside.items) (map value_in c.as_slice.result.now) here same few ∙ h))

pub returns-clause-bounds : goal.returns-clause-bounds
returns-clause-bounds c =
    let here : c.item-place.result ≡ codes "1" ∷ c.list.inside.id ∷ c.args.place.now = second_place _ _ _ _ _ c.item-place.ensures c.member-list.ensures c.as_str.ensures in
    let few : length (map value_in c.list.inside.items) ≤ 200000 = omega (arith, length-map c.list.inside.items value_in, c.if-len-gt-MOST_ITEMS.false, c.len.ensures) in
    let same : map value_in c.as_slice.result.now ≡ map value_in c.list.inside.items = search rules in
    subst (λ (l : ListRecord). (record { name = record { name = c.list.inside.name; id = Some c.list.inside.id }; items = c.in_ok-items.items } ≡ l) × (first_too_many (list_measures c.args.place.now (id_or_none l.name.id, l)) ≡ None)) c.list.view_is (
      ap (λ items. record { name = record { name = c.list.inside.name; id = Some c.list.inside.id }; items = items }) (c.in_ok-items.ensures.0 ∙ same),
      list_items c.args.place.now c.item-place.result c.list.inside.id c.list.inside.name (map value_in c.list.inside.items) (map value_in c.as_slice.result.now) here same few ∙ c.in_ok-items.ensures.1,
    )
