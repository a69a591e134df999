use Rattle.std.proofs.Common.{List, get_or, sym, ap, ◌∙◌}
use Rattle.machine_spec.specs.declared.instance.Instance.{Instance}
use Rattle.targets.proofs.Cast.{instance_at_is, instance_at_none}
use Rattle.targets.proofs.state.Targets.target.Goals as goal

pub returns-in-Some : goal.returns-in-Some
returns-in-Some c =
    ap (λ (i : Instance). i.of)
    (c.index.ensures ∙ ap (λ (l : List Instance). get_or l c.in-Some.place c.index.result.now) c.self.view_is
    ∙ sym (instance_at_is c.args.id c.args.self.now c.in-Some.place c.index.result.now (sym c.place.ensures ∙ c.in-Some.is)))

pub returns-in-None : goal.returns-in-None
returns-in-None c = ap (λ (i : Instance). i.of) (sym (instance_at_none c.args.id c.args.self.now (sym c.place.ensures ∙ c.in-None.is)))
