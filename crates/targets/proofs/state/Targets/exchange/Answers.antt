use Rattle.std.proofs.Common.{List, get_or, sym, subst, ap, ◌∙◌}
use Rattle.machine_spec.specs.declared.instance.Instance.{Instance}
use Rattle.targets.specs.Live.{IsSameCast}
use Rattle.targets.proofs.Cast.{instance_at_is, instance_at_none, on_instance_none, changed_is, cast-on_instance, cast_same, order-set, edges_keep}
use Rattle.targets.proofs.state.Targets.exchange.Goals as goal

pub invariant_of-self : goal.invariant_of-self
invariant_of-self c =
    c.self.invariant ∙ order-set (λ (i : Instance). record i { edges = c.args.«new» }) c.self.inside.instances.items c.in-Some.place c.index_mut.result.now c.exchange.new.instance (edges_keep c.args.«new») c.index_mut.ensures.value c.exchange.ensures.new

pub returns-in-Some-clause-new : goal.returns-in-Some-clause-new
returns-in-Some-clause-new c =
    changed_is c.args.id (λ (i : Instance). record i { edges = c.args.«new» }) c.self.inside.instances.items c.args.self.now c.in-Some.place c.index_mut.result.now c.exchange.new.instance
    c.self.view_is (sym c.place.ensures ∙ c.in-Some.is) c.index_mut.ensures.value c.exchange.ensures.new

pub returns-in-Some-clause-kept : goal.returns-in-Some-clause-kept
returns-in-Some-clause-kept c =
    let P : List Instance → Type 0 = IsSameCast c.args.self.now in
    subst P
    (sym (changed_is c.args.id (λ (i : Instance). record i { edges = c.args.«new» }) c.self.inside.instances.items c.args.self.now c.in-Some.place c.index_mut.result.now c.exchange.new.instance
    c.self.view_is (sym c.place.ensures ∙ c.in-Some.is) c.index_mut.ensures.value c.exchange.ensures.new))
    (cast-on_instance c.args.id (λ (i : Instance). record i { edges = c.args.«new» }) c.args.self.now c.in-Some.place c.index_mut.result.now (sym c.place.ensures ∙ c.in-Some.is) (edges_keep c.args.«new»))

pub returns-in-Some-clause-old : goal.returns-in-Some-clause-old
returns-in-Some-clause-old c =
    c.exchange.ensures.old
    ∙ ap (λ (i : Instance). i.edges)
    (c.index_mut.ensures.value ∙ ap (λ (l : List Instance). get_or l c.in-Some.place c.index_mut.result.now) c.self.view_is
    ∙ sym (instance_at_is c.args.id c.args.self.now c.in-Some.place c.index_mut.result.now (sym c.place.ensures ∙ c.in-Some.is)))

pub returns-in-None-clause-new : goal.returns-in-None-clause-new
returns-in-None-clause-new c = sym (on_instance_none c.args.id (λ (i : Instance). record i { edges = c.args.«new» }) c.args.self.now (sym c.place.ensures ∙ c.in-None.is))

pub returns-in-None-clause-kept : goal.returns-in-None-clause-kept
returns-in-None-clause-kept c = cast_same c.args.self.now

pub returns-in-None-clause-old : goal.returns-in-None-clause-old
returns-in-None-clause-old c = c.«new».ensures ∙ ap (λ (i : Instance). i.edges) (sym (instance_at_none c.args.id c.args.self.now (sym c.place.ensures ∙ c.in-None.is)))
