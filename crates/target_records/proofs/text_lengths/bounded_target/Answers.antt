use Rattle.std.proofs.Common.{◌≡◌, None, ap, sym, ◌∙◌}
use Rattle.std.proofs.lemmas.Result.{err_from_is_err_and}
use Rattle.machine_spec.specs.declared.records.TargetRecord.{TargetRecord}
use Rattle.project_spec.specs.Limits.{first_too_many, target_measures}
use Rattle.target_records.proofs.Counts.{bounds_stop, variables_in, lists_in, costumes_in, variables_stop, lists_stop, costumes_tell}
use Rattle.target_records.proofs.text_lengths.bounded_target.Goals as goal

pub returns-in_err-variables-clause-bounds : goal.returns-in_err-variables-clause-bounds
returns-in_err-variables-clause-bounds c =
    let p = err_from_is_err_and c.from_residual.result c.from_residual.ensures.1 in
    rw (p.1, p.2) (bounds_stop (λ vs. vs) (λ t. t) _ c.args.target _ _ (target_measures c.args.place.now c.args.target) (rw c.member.ensures at c.in_err-variables.ensures) (λ q h. variables_stop c.args.place.now c.args.target q (ap (λ (t : TargetRecord). first_too_many (variables_in c.args.place.now t)) (sym c.target.view_is) ∙ h)))

pub returns-in_err-lists-clause-bounds : goal.returns-in_err-lists-clause-bounds
returns-in_err-lists-clause-bounds c =
    let p = err_from_is_err_and c.from_residual-in_err-lists.result c.from_residual-in_err-lists.ensures.1 in
    let none : first_too_many (variables_in c.args.place.now c.args.target) ≡ None = ap (λ (t : TargetRecord). first_too_many (variables_in c.args.place.now t)) (sym c.target.view_is) ∙ (rw c.member.ensures at c.in_ok-variables.ensures.1) in
    rw (p.1, p.2) (bounds_stop (λ ls. ls) (λ t. t) _ c.args.target _ _ (target_measures c.args.place.now c.args.target) (rw c.member-2.ensures at c.in_err-lists.ensures.bounds) (λ q h. lists_stop c.args.place.now c.args.target q none (ap (λ (t : TargetRecord). first_too_many (lists_in c.args.place.now t)) (sym c.target.view_is) ∙ h)))

pub returns-in_err-costumes-clause-bounds : goal.returns-in_err-costumes-clause-bounds
returns-in_err-costumes-clause-bounds c =
    let p = err_from_is_err_and c.from_residual-in_err-costumes.result c.from_residual-in_err-costumes.ensures.1 in
    let none : first_too_many (variables_in c.args.place.now c.args.target) ≡ None = ap (λ (t : TargetRecord). first_too_many (variables_in c.args.place.now t)) (sym c.target.view_is) ∙ (rw c.member.ensures at c.in_ok-variables.ensures.1) in
    let nor : first_too_many (lists_in c.args.place.now c.args.target) ≡ None = ap (λ (t : TargetRecord). first_too_many (lists_in c.args.place.now t)) (sym c.target.view_is) ∙ (rw c.member-2.ensures at c.in_ok-lists.ensures.bounds.1) in
    rw (p.1, p.2) (bounds_stop (λ ns. ns) (λ t. t) _ c.args.target _ _ (target_measures c.args.place.now c.args.target) (rw c.member-3.ensures at c.in_err-costumes.ensures) (λ q h. costumes_tell c.args.place.now c.args.target _ none nor (ap (λ (t : TargetRecord). first_too_many (costumes_in c.args.place.now t)) (sym c.target.view_is) ∙ h)))

pub returns-clause-bounds : goal.returns-clause-bounds
returns-clause-bounds c =
    let none : first_too_many (variables_in c.args.place.now c.args.target) ≡ None = ap (λ (t : TargetRecord). first_too_many (variables_in c.args.place.now t)) (sym c.target.view_is) ∙ (rw c.member.ensures at c.in_ok-variables.ensures.1) in
    let nor : first_too_many (lists_in c.args.place.now c.args.target) ≡ None = ap (λ (t : TargetRecord). first_too_many (lists_in c.args.place.now t)) (sym c.target.view_is) ∙ (rw c.member-2.ensures at c.in_ok-lists.ensures.bounds.1) in
    (rw (c.in_ok-variables.ensures.0, c.in_ok-lists.ensures.bounds.0, c.in_ok-costumes.ensures.0) c.target.view_is, costumes_tell c.args.place.now c.args.target _ none nor (ap (λ (t : TargetRecord). first_too_many (costumes_in c.args.place.now t)) (sym c.target.view_is) ∙ (rw c.member-3.ensures at c.in_ok-costumes.ensures.1)))
