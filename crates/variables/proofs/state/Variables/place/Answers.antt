use Rattle.std.proofs.Common.{◌<◌, length, sym, ap, ◌∙◌, arith}
use Rattle.std.specs.List.{position}
use Rattle.std.specs.Prelude.{◌==◌}
use Rattle.std.proofs.lemmas.Bool.{eqb-true}
use Rattle.machine_spec.specs.Stores.{Variables}
use Rattle.machine_spec.specs.declared.variables.Store.{Store}
use Rattle.variables.proofs.Apart.{found_at}
use Rattle.variables.proofs.state.Variables.place.Goals as goal

pub returns-then-eq : goal.returns-then-eq
returns-then-eq c =
    let within : c.of.inside.0 < length c.self.inside.stores.items = omega (arith, c.self.inside.stores.ok.0) in
    let found = found_at c.args.of c.self.inside.stores.items c.of.inside.0 c.index.result.now c.self.invariant.distinct within (sym (ap (λ (s : Store). s.of) c.index.ensures) ∙ eqb-true _ _ (sym c.eq.ensures ∙ c.if-eq.true)) in
    sym (ap (λ (v : Variables). position (λ s. s.of == c.args.of) v.stores) (sym c.self.view_is) ∙ found)
