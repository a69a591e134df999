use Rattle.std.proofs.Common.{List, Some, get_or, sym, ap, ◌∙◌}
use Rattle.std.specs.Prelude.{◌==◌}
use Rattle.machine_spec.specs.declared.instance.Instance.{Instance}
use Rattle.targets.proofs.Places.{find_is, find_none}
use Rattle.targets.proofs.state.Targets.get.Goals as goal

pub returns-in-Some : goal.returns-in-Some
returns-in-Some c =
    ap Some (c.index.ensures ∙ ap (λ (l : List Instance). get_or l c.in-Some.place c.index.result.now) c.self.view_is)
    ∙ sym (find_is (λ (i : Instance). i.number == c.args.id) c.args.self.now c.in-Some.place c.index.result.now (sym c.place.ensures ∙ c.in-Some.is))

pub returns-in-None : goal.returns-in-None
returns-in-None c = sym (find_none (λ (i : Instance). i.number == c.args.id) c.args.self.now (sym c.place.ensures ∙ c.in-None.is))
