use Rattle.std.proofs.Common.{◌≡◌, nat_eq, true, false, Ok, length, subst, sym, ap, ◌∙◌, arith}
use Rattle.std.proofs.lemmas.Bool.Decides.{nat_tests}
use Rattle.std.proofs.lemmas.Result.{err_from_is_err_and}
use Rattle.project_json.specs.Reading.{skip, Fails, value_at, end_of}
use Rattle.project_json.proofs.Utf8.{skip_past}
use Rattle.project_json.specs.View.{tree}
use Rattle.project_json.proofs.Lists.{text_stop, text_goes_on, end_of-rest, end_of-none, value_at-is}
use Rattle.project_json.proofs.reader.text.Goals as goal

pub returns-in_err-value : goal.returns-in_err-value
returns-in_err-value c =
    let p = err_from_is_err_and c.from_residual.result c.from_residual.ensures.1 in
    let e = c.in_err-value.field-0.0 in
    let h : Fails e (value_at 256 c.skip.result.now) = subst (Fails e) (value_at-is 256 c.skip.result.now) c.in_err-value.ensures in
    rw (p.1, p.2) (text_stop e 256 c.args.bytes.now (subst (λ bs. Fails e (value_at 256 bs)) c.skip.ensures h))

pub returns-then-not-is_empty : goal.returns-then-not-is_empty
returns-then-not-is_empty c =
    let t = tree c.in_ok-value.value in
    let rest = c.skip-rest.result.now in
    let h : value_at 256 (skip c.args.bytes.now) ≡ Ok (t, c.in_ok-value.rest.now) =
    subst (λ bs. value_at 256 bs ≡ Ok (t, c.in_ok-value.rest.now)) c.skip.ensures (sym (value_at-is 256 c.skip.result.now) ∙ c.in_ok-value.ensures) in
    text_goes_on 256 c.args.bytes.now t c.in_ok-value.rest.now h
    ∙ ap (end_of t) (sym c.skip-rest.ensures)
    ∙ end_of-rest t rest (let full : (nat_eq (length rest) 0) ≡ false = sym c.is_empty.ensures ∙ c.if-not-is_empty.true in grind (arith, nat_tests))

pub returns : goal.returns
returns c =
    let t = tree c.in_ok-value.value in
    let rest = c.skip-rest.result.now in
    let h : value_at 256 (skip c.args.bytes.now) ≡ Ok (t, c.in_ok-value.rest.now) =
    subst (λ bs. value_at 256 bs ≡ Ok (t, c.in_ok-value.rest.now)) c.skip.ensures (sym (value_at-is 256 c.skip.result.now) ∙ c.in_ok-value.ensures) in
    text_goes_on 256 c.args.bytes.now t c.in_ok-value.rest.now h
    ∙ ap (end_of t) (sym c.skip-rest.ensures)
    ∙ end_of-none t rest (let none : (nat_eq (length rest) 0) ≡ true = sym c.is_empty.ensures ∙ c.if-not-is_empty.false in grind (arith, nat_tests))

pub value-requires : goal.value-requires
value-requires c = skip_past c.args.bytes.now c.skip.result.now c.skip.ensures c.requires
