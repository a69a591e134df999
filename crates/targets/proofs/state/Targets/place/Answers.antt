use Rattle.std.proofs.Common.{ℕ, List, ap, ◌∙◌}
use Rattle.std.specs.Prelude.{◌==◌}
use Rattle.std.specs.List.{position}
use Rattle.machine_spec.specs.declared.instance.Instance.{Instance}
use Rattle.targets.proofs.Cast.{position-numbers}
use Rattle.targets.proofs.state.Targets.place.Goals as goal

pub returns : goal.returns
returns c =
    c.place.ensures
    ∙ ap (λ (l : List ℕ). position (λ n. n == c.args.id) l) c.self.invariant
    ∙ position-numbers c.args.id c.self.inside.instances.items
    ∙ ap (λ (l : List Instance). position (λ i. i.number == c.args.id) l) c.self.view_is
