use Rattle.std.proofs.Common.{◌≡◌, ◌++◌, ◌∷◌, List, map, codes, flat_map, None, sym}
use Rattle.std.proofs.lemmas.Result.{err_from_is_err_and}
use Rattle.project_spec.specs.Limits.{Measure, input_measures, default_measures, first_too_many}
use Rattle.block_table.specs.FileBlock.{named_input, mutation_in}
use Rattle.block_table.specs.Measured.{field_measures}
use Rattle.block_table.specs.Refused.{Refuses}
use Rattle.block_table.proofs.Measures.{refuses-front, refuses-behind, too_many-both}
use Rattle.block_table.proofs.text_lengths.short_parts.Goals as goal

pub returns-in_err-inputs : goal.returns-in_err-inputs
returns-in_err-inputs c =
    let p = err_from_is_err_and c.from_residual.result c.from_residual.ensures.1 in
    let refusal = c.in_err-inputs.field-0.0 in
    let ins : List Measure = flat_map (input_measures (codes "inputs" ∷ c.args.place.now)) (map named_input c.args.inputs) in
    let fs : List Measure = flat_map (field_measures c.args.is_list c.args.place.now) c.args.fields in
    let ds : List Measure = default_measures c.args.place.now (mutation_in c.args.mutation) in
    let refused : Refuses refusal ins = rw (sym c.member.ensures) c.in_err-inputs.ensures in
    rw (p.1, p.2) (refuses-front refusal ins (fs ++ ds) refused)

pub returns-in_err-fields : goal.returns-in_err-fields
returns-in_err-fields c =
    let p = err_from_is_err_and c.from_residual-in_err-fields.result c.from_residual-in_err-fields.ensures.1 in
    let refusal = c.in_err-fields.field-0.0 in
    let ins : List Measure = flat_map (input_measures (codes "inputs" ∷ c.args.place.now)) (map named_input c.args.inputs) in
    let fs : List Measure = flat_map (field_measures c.args.is_list c.args.place.now) c.args.fields in
    let ds : List Measure = default_measures c.args.place.now (mutation_in c.args.mutation) in
    let none : first_too_many ins ≡ None = rw (sym c.member.ensures) c.in_ok-inputs.ensures.1 in
    rw (p.1, p.2) (refuses-behind refusal ins (fs ++ ds) none (refuses-front refusal fs ds c.in_err-fields.ensures))

pub returns-in_err-mutation : goal.returns-in_err-mutation
returns-in_err-mutation c =
    let p = err_from_is_err_and c.from_residual-in_err-mutation.result c.from_residual-in_err-mutation.ensures.1 in
    let refusal = c.in_err-mutation.field-0.0 in
    let ins : List Measure = flat_map (input_measures (codes "inputs" ∷ c.args.place.now)) (map named_input c.args.inputs) in
    let fs : List Measure = flat_map (field_measures c.args.is_list c.args.place.now) c.args.fields in
    let ds : List Measure = default_measures c.args.place.now (mutation_in c.args.mutation) in
    let none : first_too_many ins ≡ None = rw (sym c.member.ensures) c.in_ok-inputs.ensures.1 in
    rw (p.1, p.2) (refuses-behind refusal ins (fs ++ ds) none (refuses-behind refusal fs ds c.in_ok-fields.ensures.1 c.in_err-mutation.ensures))

pub returns : goal.returns
returns c =
    let ins : List Measure = flat_map (input_measures (codes "inputs" ∷ c.args.place.now)) (map named_input c.args.inputs) in
    let fs : List Measure = flat_map (field_measures c.args.is_list c.args.place.now) c.args.fields in
    let ds : List Measure = default_measures c.args.place.now (mutation_in c.args.mutation) in
    let none : first_too_many ins ≡ None = rw (sym c.member.ensures) c.in_ok-inputs.ensures.1 in (
      (λ i. (c.in_ok-inputs.ensures.0 i, c.in_ok-fields.ensures.0 i, c.in_ok-mutation.ensures.0 i)),
      too_many-both ins (fs ++ ds) none (too_many-both fs ds c.in_ok-fields.ensures.1 c.in_ok-mutation.ensures.1),
    )
