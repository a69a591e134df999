use Rattle.std.proofs.Common.{◌≡◌, sym, ap₂, ◌∙◌}
use Rattle.std.specs.List.{position}
use Rattle.std.specs.Str.{bytes_eq}
use Rattle.std.proofs.lemmas.Result.{on_ok_weaker}
use Rattle.scratch_values.proofs.Parameters.{with_param-absent, with_param-present}
use Rattle.scratch_values.proofs.params.Params.put.Goals as goal

pub returns-in-Some-clause-ok : goal.returns-in-Some-clause-ok
returns-in-Some-clause-ok c =
    let listed : c.as_slice.result.now ≡ c.args.self.now = c.as_slice.ensures ∙ c.self.view_is in
    let found = ap₂ (λ n ps. position (λ p. bytes_eq p.0 n) ps) (sym c.as_str.ensures) (sym listed) ∙ sym c.place_of.ensures.value ∙ c.in-Some.is in
    rw (c.replace.ensures.new, c.self.view_is) (sym (with_param-present c.args.name c.args.value c.args.self.now c.in-Some.place found))

pub returns-in-None-clause-ok : goal.returns-in-None-clause-ok
returns-in-None-clause-ok c =
    let listed : c.as_slice.result.now ≡ c.args.self.now = c.as_slice.ensures ∙ c.self.view_is in
    let absent = ap₂ (λ n ps. position (λ p. bytes_eq p.0 n) ps) (sym c.as_str.ensures) (sym listed) ∙ sym c.place_of.ensures.value ∙ c.in-None.is in
    on_ok_weaker c.push.result (λ e. rw c.self.view_is at e ∙ sym (with_param-absent c.args.name c.args.value c.args.self.now absent)) c.push.ensures.ok
