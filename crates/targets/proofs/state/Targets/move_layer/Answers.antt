use Rattle.std.proofs.Common.{◌≡◌, ℕ, ◌-◌, ◌<◌, List, length, get_or, Some, sym, ap, ap₂, ◌∙◌, arith}
use Rattle.std.specs.Prelude.{◌==◌}
use Rattle.std.specs.List.{position, insert, remove}
use Rattle.std.proofs.lemmas.List.Edits.{length-remove}
use Rattle.machine_spec.specs.declared.instance.Instance.{Instance}
use Rattle.machine_spec.specs.Stores.{no_instance, instance_at}
use Rattle.targets.specs.Layers.{layer_to}
use Rattle.targets.specs.Live.{numbers}
use Rattle.targets.proofs.Places.{position_is}
use Rattle.targets.proofs.Cast.{live_is_placed, instance_at_is}
use Rattle.targets.proofs.Moves.{numbers-insert, numbers-remove, get_or-numbers, insert_kept}
use Rattle.std.specs.List.{list_any}
use Rattle.targets.proofs.Same.{any-moved}
use Rattle.targets.proofs.state.Targets.move_layer.Goals as goal

pub unreachable-requires : goal.unreachable-requires
unreachable-requires c = live_is_placed c.args.id c.args.self.now c.requires (sym c.place.ensures ∙ c.in-None.is)

pub invariant_of-self : goal.invariant_of-self
invariant_of-self c =
    let items = c.self.inside.instances.items in
    let order_is : c.take-order.result.items ≡ numbers c.self.inside.instances.items = c.take-order.ensures.ids ∙ c.self.invariant in
    let at = position_is (λ (i : Instance). i.number == c.args.id) c.args.self.now c.in-Some.place no_instance (sym c.place.ensures ∙ c.in-Some.is) in
    let within : c.in-Some.place < length c.self.inside.instances.items = omega (arith, ap length c.self.view_is) in
    c.put.ensures ∙ c.shift.ensures 0
    ∙ ap (λ (l : List ℕ). insert (remove l c.in-Some.place) c.layer-to.result (get_or l c.in-Some.place 0)) order_is
    ∙ ap₂ (λ (l : List ℕ) (n : ℕ). insert l c.layer-to.result n) (sym (numbers-remove items c.in-Some.place)) (get_or-numbers items c.in-Some.place 0 no_instance within)
    ∙ sym (numbers-insert (remove items c.in-Some.place) c.layer-to.result (get_or items c.in-Some.place no_instance))
    ∙ ap numbers (sym (c.shift-in-Some.ensures no_instance))

pub returns-clause-new : goal.returns-clause-new
returns-clause-new c =
    let is = c.args.self.now in
    let place = c.in-Some.place in
    let found : position (λ (i : Instance). i.number == c.args.id) c.args.self.now ≡ Some c.in-Some.place = sym c.place.ensures ∙ c.in-Some.is in
    let at = position_is (λ (i : Instance). i.number == c.args.id) c.args.self.now c.in-Some.place no_instance found in
    let all : c.len.result ≡ length c.args.self.now = omega (arith, ap length c.self.view_is, c.self.inside.instances.ok.0) in
    let others : c.len.result - 1 ≡ length (remove is place) = omega (arith, length-remove is place at.1) in
    c.shift-in-Some.ensures no_instance
    ∙ ap (λ (l : List Instance). insert (remove l place) c.layer-to.result (get_or l place no_instance)) c.self.view_is
    ∙ ap (λ (k : ℕ). insert (remove is place) k (get_or is place no_instance)) c.layer-to.ensures
    ∙ insert_kept (remove is place) (layer_to c.args.to place (c.len.result - 1)) (c.len.result - 1) (get_or is place no_instance) others
    ∙ ap (λ (n : ℕ). insert (remove is place) (layer_to c.args.to place (n - 1)) (get_or is place no_instance)) all
    ∙ ap (λ (x : Instance). insert (remove is place) (layer_to c.args.to place (length is - 1)) x) (sym (instance_at_is c.args.id is place no_instance found))
    ∙ ap (λ (k : ℕ). insert (remove is k) (layer_to c.args.to k (length is - 1)) (instance_at c.args.id is)) (sym at.0)

pub returns-clause-same : goal.returns-clause-same
returns-clause-same c = λ test.
    let at = position_is (λ (i : Instance). i.number == c.args.id) c.args.self.now c.in-Some.place no_instance (sym c.place.ensures ∙ c.in-Some.is) in
    ap (list_any test) (c.shift-in-Some.ensures no_instance ∙ ap (λ (l : List Instance). insert (remove l c.in-Some.place) c.layer-to.result (get_or l c.in-Some.place no_instance)) c.self.view_is)
    ∙ any-moved test c.args.self.now c.in-Some.place c.layer-to.result no_instance at.1
