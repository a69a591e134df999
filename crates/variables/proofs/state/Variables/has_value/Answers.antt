use Rattle.std.proofs.Common.{◌≡◌, length, get_or, sym, ap, ◌∙◌, arith}
use Rattle.std.proofs.lemmas.Bool.Decides.{nat_tests}
use Rattle.machine_spec.specs.declared.variables.Store.{Store}
use Rattle.machine_spec.specs.Stores.{Variables, store_at}
use Rattle.variables.proofs.Shapes.{store_at_is, value_is_placed}
use Rattle.variables.proofs.state.Variables.has_value.Goals as goal

pub returns-in-Some : goal.returns-in-Some
returns-in-Some c =
    let at : c.index.result.now ≡ store_at c.args.of c.args.self.now.stores =
    c.index.ensures ∙ ap (λ (v : Variables). get_or v.stores c.in-Some.place c.index.result.now) c.self.view_is
    ∙ sym (store_at_is c.args.of c.args.self.now.stores c.in-Some.place c.index.result.now (sym c.place.ensures ∙ c.in-Some.is)) in
    let all : c.len.result ≡ length (store_at c.args.of c.args.self.now.stores).values = c.len.ensures ∙ ap (λ (s : Store). length s.values) at in
    (λ e. grind (arith, nat_tests), λ h. grind (arith, nat_tests))

pub returns-in-None : goal.returns-in-None
returns-in-None c = (λ e. absurd (cc e), λ h. absurd (value_is_placed c.args.of c.args.index c.args.self.now h (sym c.place.ensures ∙ c.in-None.is)))
