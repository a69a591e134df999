use Rattle.std.proofs.Common.{◌≡◌, List, get_or, Some, sym, ap, ap₂, ◌∙◌}
use Rattle.std.specs.Prelude.{◌==◌}
use Rattle.std.specs.List.{position, remove}
use Rattle.machine_spec.specs.declared.instance.Instance.{Instance}
use Rattle.machine_spec.specs.Lists.{removed_at}
use Rattle.machine_spec.specs.Stopping.{inserted_behind}
use Rattle.machine_spec.specs.Stores.{no_instance}
use Rattle.targets.proofs.Cast.{live_is_placed, instance_at_is}
use Rattle.std.specs.List.{list_any}
use Rattle.machine_spec.specs.Stopping.{placed_behind}
use Rattle.targets.proofs.Same.{any-behind}
use Rattle.targets.proofs.state.Targets.place_behind.Goals as goal

pub unreachable-requires : goal.unreachable-requires
unreachable-requires c = live_is_placed c.args.clone c.args.self.now c.requires (sym c.place.ensures ∙ c.in-None.is)

placed : (c : goal.After-put) → c.put_behind.new.instances.items ≡ placed_behind c.args.clone c.args.original c.args.self.now
placed c =
    let found : position (λ (i : Instance). i.number == c.args.clone) c.args.self.now ≡ Some c.in-Some.place = sym c.place.ensures ∙ c.in-Some.is in
    c.put_behind.ensures.put no_instance
    ∙ ap (λ (l : List Instance). inserted_behind (get_or l c.in-Some.place no_instance) c.args.original (remove l c.in-Some.place)) c.self.view_is
    ∙ ap₂ (λ (x : Instance) (l : List Instance). inserted_behind x c.args.original l)
    (sym (instance_at_is c.args.clone c.args.self.now c.in-Some.place no_instance found))
    (sym (ap (λ o. removed_at o c.args.self.now) found))

pub returns-clause-new : goal.returns-clause-new
returns-clause-new c = placed c

pub returns-clause-same : goal.returns-clause-same
returns-clause-same c = λ h test.
    ap (list_any test) (placed c) ∙ any-behind test c.args.clone c.args.original c.args.self.now c.in-Some.place no_instance (sym c.place.ensures ∙ c.in-Some.is) h
