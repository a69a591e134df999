use Rattle.std.proofs.Common.{sym, ap, ◌∙◌, ◌∷◌}
use Rattle.machine_spec.specs.ScriptText.{by_words, words_of}
use Rattle.input_script.proofs.LineWords.{unknown_along, five_words}
use Rattle.input_script.proofs.line_reader.by_four.Goals as goal

pub returns-in-Some-clause-refused : goal.returns-in-Some-clause-refused
returns-in-Some-clause-refused c =
    let parted = rw c.in-Some.is at c.cut.ensures.parted in
    unknown_along c.unknown.result c.args.number (by_words c.args.number c.args.last (c.args.word.now ∷ c.args.clock.now ∷ c.args.passes.now ∷ words_of c.args.rest.now)) c.unknown.ensures
    (five_words c.args.number c.args.last c.args.word.now c.args.clock.now c.args.passes.now c.cut.result.0.now c.in-Some.field-0.now
    ∙ ap (λ ws. by_words c.args.number c.args.last (c.args.word.now ∷ c.args.clock.now ∷ c.args.passes.now ∷ ws)) (sym parted))
