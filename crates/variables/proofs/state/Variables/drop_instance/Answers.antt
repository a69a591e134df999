use Rattle.std.proofs.Common.{List, sym, subst, ap, ◌∙◌}
use Rattle.std.specs.List.{remove}
use Rattle.machine_spec.specs.declared.variables.Store.{Store}
use Rattle.machine_spec.specs.Stores.{Variables, store_at}
use Rattle.variables.specs.Kept.{IsKept}
use Rattle.variables.proofs.Gone.{store_at-dropped}
use Rattle.variables.proofs.Short.{kept-remove}
use Rattle.variables.proofs.state.Variables.drop_instance.Goals as goal

pub invariant_of-self : goal.invariant_of-self
invariant_of-self c =
    let P : List Store → Type 0 = λ l. IsKept l c.self.inside.zero c.self.inside.nothing in
    subst P (sym c.remove.ensures.items) (kept-remove c.self.inside.stores.items c.in-Some.place c.self.inside.zero c.self.inside.nothing c.self.invariant)

pub returns-in-Some-clause-others : goal.returns-in-Some-clause-others
returns-in-Some-clause-others c = λ n ne.
    ap (store_at n) c.remove.ensures.items
    ∙ ap (λ (v : Variables). store_at n (remove v.stores c.in-Some.place)) c.self.view_is
    ∙ store_at-dropped n c.args.id c.args.self.now.stores c.in-Some.place (sym c.place.ensures ∙ c.in-Some.is) ne
