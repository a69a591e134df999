use Rattle.std.proofs.Common.{◌≡◌, List, ◌++◌, length, take, drop, map, refl, sym, subst, ap, ◌∙◌, arith}
use Rattle.std.proofs.lemmas.List.{take_at, length-map}
use Rattle.machine_spec.specs.declared.instance.Instance.{Instance}
use Rattle.machine_spec.specs.Line.{without_edges}
use Rattle.targets.specs.Live.{IsSameCast, numbers}
use Rattle.targets.proofs.Cast.{cast-map}
use Rattle.targets.proofs.Moves.{numbers-map}
use Rattle.targets.proofs.state.Targets.clear_edges.Goals as goal

forgotten : (c : goal.After-self-1) → c.forget_all.new.instances ≡ map without_edges c.self.inside.instances.items
forgotten c = c.forget_all.ensures ∙ ap (map without_edges) c.deref_mut.ensures.value

whole : (c : goal.After-self-1) → take c.self.inside.instances.len (c.forget_all.new.instances ++ drop (length c.forget_all.new.instances) c.self.inside.instances.items) ≡ map without_edges c.self.inside.instances.items
whole c =
    take_at c.forget_all.new.instances (drop (length c.forget_all.new.instances) c.self.inside.instances.items) c.self.inside.instances.len
    (omega (arith, ap length (forgotten c), length-map c.self.inside.instances.items without_edges, c.self.inside.instances.ok.0))
    ∙ forgotten c

pub invariant_of-self : goal.invariant_of-self
invariant_of-self c =
    c.self.invariant ∙ sym (numbers-map without_edges c.self.inside.instances.items (λ i. refl)) ∙ ap numbers (sym (whole c))

pub returns-clause-new : goal.returns-clause-new
returns-clause-new c = whole c ∙ ap (map without_edges) c.self.view_is

pub returns-clause-kept : goal.returns-clause-kept
returns-clause-kept c =
    let P : List Instance → Type 0 = IsSameCast c.args.self.now in
    subst P (sym (whole c ∙ ap (map without_edges) c.self.view_is)) (cast-map without_edges (record { number = λ i. refl; of = λ i. refl }) c.args.self.now)
