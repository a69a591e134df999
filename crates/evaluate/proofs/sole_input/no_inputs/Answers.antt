-- A block without inputs has its fields alone as arguments.
use Rattle.std.proofs.Common.{◌≡◌, List, [], ◌∷◌, length, refl, sym, ap, ◌∙◌}
use Rattle.scratch_values.specs.Args.{arguments}
use Rattle.machine_spec.specs.Evaluate.{evaluated}
use Rattle.machine_spec.specs.Outcome.{Goes, then_do}
use Rattle.machine_spec.specs.Words.{made_of}
use Rattle.project_check.specs.Loaded.{ranks_at}
use Rattle.project_check.proofs.Linked.{closed_at, ranked_at}
use Rattle.evaluate.specs.Seen.{seen, sheet_of, input_values, inputs_of}
use Rattle.evaluate.proofs.Values.{arguments-here, evaluated-told}
use Rattle.evaluate.proofs.sole_input.no_inputs.Goals as goal

none-left : {A : Type 0} (xs : List A) → length xs ≡ 0 → xs ≡ []
none-left [] h = refl
none-left (x ∷ xs) h = absurd (cc h)

pub returns : goal.returns
returns c = λ s rest w e.
    let v = c.args.view.now in
    let block = c.linked-cached.result.now in
    let told = c.a_script_is_told.ensures (sheet_of v) (ranks_at v.target v.project.now) c.args.block block (ranked_at v.project.now v.target) (closed_at v.project.now v.target) c.linked-cached.ensures.block in
    let same : told.0 ≡ s = cc (told.1, e) in
    let none : block.inputs ≡ [] = none-left block.inputs (ap (λ o. length (inputs_of o)) (sym c.linked-cached.ensures.block) ∙ c.requires.none) in
    ap (λ t. evaluated (seen v) t w) (sym same) ∙ evaluated-told v c.args.block block c.linked-cached.ensures.block w told.0 told.2
    ∙ arguments-here v c.args.block block c.linked-cached.ensures.block w
    ∙ ap (λ xs. then_do (input_values v xs w) (made_of (λ ys. arguments ys block.fields))) none
    ∙ ap (λ a. Goes (record { value = a; words = w })) (ap (arguments []) (sym c.as_slice.ensures) ∙ sym c.none.ensures)
