use Rattle.std.proofs.Common.{List, get_or, not, sym, ap, ◌∙◌}
use Rattle.std.specs.Prelude.{nat_lt, ◌||◌}
use Rattle.machine_spec.specs.declared.instance.Instance.{Instance}
use Rattle.machine_spec.specs.Stores.{no_instance}
use Rattle.machine_spec.specs.Stopping.{most_clones}
use Rattle.targets.specs.Clones.{clones_in, is_of_first}
use Rattle.targets.proofs.Cast.{live_is_placed, instance_at_is}
use Rattle.targets.proofs.state.Targets.lacks_room.Goals as goal

pub unreachable-requires : goal.unreachable-requires
unreachable-requires c = live_is_placed c.args.of c.args.self.now c.requires (sym c.place.ensures ∙ c.in-None.is)

pub returns : goal.returns
returns c =
    c.is_full.ensures no_instance
    ∙ ap (λ (l : List Instance). not (nat_lt (clones_in l) most_clones) || is_of_first (get_or l c.in-Some.place no_instance) l) (c.as_slice.ensures.value ∙ c.self.view_is)
    ∙ ap (λ (i : Instance). not (nat_lt (clones_in c.args.self.now) most_clones) || is_of_first i c.args.self.now)
    (sym (instance_at_is c.args.of c.args.self.now c.in-Some.place no_instance (sym c.place.ensures ∙ c.in-Some.is)))
