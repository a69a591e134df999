use Rattle.std.proofs.Common.{sym, ap, ◌∙◌, arith}
use Rattle.std.specs.Prelude.{option_map, min, pos}
use Rattle.std.proofs.lemmas.Str.Pattern.{strip_prefix_char}
use Rattle.machine_spec.specs.ScriptText.{whole_number, negated_number, signed_number}
use Rattle.input_script.specs.Kept.{kept_within}
use Rattle.input_script.proofs.Kept.{negated_kept, positive_kept, unsigned_word}
use Rattle.input_script.proofs.numbers.signed_number.Goals as goal

pub returns-in-Some : goal.returns-in-Some
returns-in-Some c =
    let cut = strip_prefix_char 45 c.args.word.now c.strip_prefix.result c.strip_prefix.ensures.cases (omega arith) in
    let word = rw c.in-Some.is at cut in
    c.negated.ensures
    ∙ ap negated_number (c.whole_number.ensures.number ∙ ap (λ n. option_map (min n) (whole_number c.in-Some.digits.now)) c.from.ensures)
    ∙ negated_kept c.args.most (whole_number c.in-Some.digits.now) c.requires
    ∙ ap (λ w. option_map (kept_within c.args.most) (signed_number w)) (sym word)

pub returns-in-None : goal.returns-in-None
returns-in-None c =
    let cut = strip_prefix_char 45 c.args.word.now c.strip_prefix.result c.strip_prefix.ensures.cases (omega arith) in
    let word = rw c.in-None.is at cut in
    c.positive.ensures
    ∙ ap (option_map pos) (c.whole_number-in-None.ensures.number ∙ ap (λ n. option_map (min n) (whole_number c.args.word.now)) c.from-in-None.ensures)
    ∙ positive_kept c.args.most (whole_number c.args.word.now)
    ∙ ap (option_map (kept_within c.args.most)) (sym (unsigned_word c.args.word.now word))
