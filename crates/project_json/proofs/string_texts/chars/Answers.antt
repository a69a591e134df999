use Rattle.std.proofs.Common.{◌-◌, ◌+◌, ℕ, List, length, Ok, sym, ap, ◌∙◌, arith}
use Rattle.std.proofs.lemmas.Result.{err_from_is_err_and}
use Rattle.project_json.proofs.Joins.{joins_end, chars_stop, chars_joins}
use Rattle.project_json.proofs.string_texts.chars.Goals as goal

pub returns-in_err-next : goal.returns-in_err-next
returns-in_err-next c =
    let p = err_from_is_err_and c.from_residual.result c.from_residual.ensures.1 in
    let n = length c.args.bytes.now in
    rw (p.1, p.2) (chars_stop c.in_err-next.field-0.0 c.loop.buffer.items c.loop.high (n - (c.loop.counter + 1)) (n - c.loop.counter) c.loop.rest.now c.args.bytes.now (omega arith) c.in_err-next.ensures c.loop.invariant.read)

pub returns-in-None : goal.returns-in-None
returns-in-None c =
    let n = length c.args.bytes.now in
    chars_joins c.args.bytes.now
    ∙ sym c.loop.invariant.read
    ∙ joins_end c.loop.buffer.items c.loop.high (n - (c.loop.counter + 1)) (n - c.loop.counter) c.loop.rest.now c.in_ok-next.after.now (omega arith) (let h = c.in_ok-next.ensures in let k = c.in-None.is in cc)
    ∙ ap (λ (xs : List ℕ). Ok (xs, c.in_ok-next.after.now)) (sym c.in_ok-flush-in-None.ensures)
