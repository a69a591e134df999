use Rattle.std.proofs.Common.{◌≡◌, ℕ, List, sym, ap, ◌∙◌}
use Rattle.std.specs.List.{remove}
use Rattle.machine_spec.specs.declared.instance.Instance.{Instance}
use Rattle.machine_spec.specs.Stores.{live, no_instance}
use Rattle.targets.specs.Live.{numbers}
use Rattle.targets.proofs.Moves.{numbers-remove, live-removed}
use Rattle.targets.proofs.state.Targets.dispose.Goals as goal

pub invariant_of-self : goal.invariant_of-self
invariant_of-self c =
    let order_is : c.take-order.result.items ≡ numbers c.self.inside.instances.items = c.take-order.ensures.ids ∙ c.self.invariant in
    c.put.ensures ∙ c.remove.ensures.items ∙ ap (λ (l : List ℕ). remove l c.in-Some.place) order_is
    ∙ sym (numbers-remove c.self.inside.instances.items c.in-Some.place) ∙ ap numbers (sym c.remove-in-Some.ensures.items)

pub returns-in-Some-clause-others : goal.returns-in-Some-clause-others
returns-in-Some-clause-others c = λ n ne.
    ap (live n) c.remove-in-Some.ensures.items
    ∙ ap (λ (l : List Instance). live n (remove l c.in-Some.place)) c.self.view_is
    ∙ live-removed n c.args.id c.args.self.now c.in-Some.place no_instance (sym c.place.ensures ∙ c.in-Some.is) ne
