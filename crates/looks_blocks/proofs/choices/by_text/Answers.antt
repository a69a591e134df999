-- The first costume with the name.
use Rattle.std.proofs.Common.{◌≡◌, ℕ, List, Option, ap, ◌∙◌}
use Rattle.std.specs.Prelude.{bytes_eq, position}
use Rattle.scratch_values.specs.Comparison.{numeric}
use Rattle.scratch_values.specs.Value.{text_of}
use Rattle.machine_spec.specs.Costume as machine
use Rattle.looks_blocks.proofs.choices.by_text.Goals as goal

pub returns-in-Some : goal.returns-in-Some
returns-in-Some c =
    let text : c.as_str.result.now ≡ text_of c.args.value.now = c.as_str.ensures.text ∙ c.of-text.ensures in
    let next = machine.by_words c.args.is_backdrop (text_of c.args.value.now) c.args.now (machine.by_number (numeric c.args.value.now)) in
    ap machine.To c.index.ensures
    ∙ ap (λ (o : Option ℕ). machine.by_name o next) (c.in-Some.ensures ∙ ap (λ (t : List ℕ). position (λ name. bytes_eq name t) c.args.names.now) text)
