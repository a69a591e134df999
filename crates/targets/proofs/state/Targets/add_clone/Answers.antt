use Rattle.std.proofs.Common.{◌≡◌, ℕ, List, [], ◌∷◌, ◌++◌, length, get_or, sym, ap, ap₂, ◌∙◌, arith}
use Rattle.std.specs.List.{insert}
use Rattle.std.proofs.lemmas.List.Edits.{insert_end}
use Rattle.machine_spec.specs.declared.instance.Instance.{Instance}
use Rattle.machine_spec.specs.Stopping.{copied}
use Rattle.machine_spec.specs.Stores.{live, instance_at}
use Rattle.targets.proofs.Cast.{live_is_placed, instance_at_is}
use Rattle.targets.proofs.Moves.{live-pushed}
use Rattle.targets.proofs.state.Targets.add_clone.Goals as goal

pub unreachable-requires : goal.unreachable-requires
unreachable-requires c = live_is_placed c.args.of c.args.self.now c.requires (sym c.place.ensures ∙ c.in-None.is)

pub returns-clause-ok : goal.returns-clause-ok
returns-clause-ok c =
    let clone_is : c.in_ok-clone-in-Some.clone ≡ copied c.args.number (instance_at c.args.of c.args.self.now) =
    c.in_ok-clone-in-Some.ensures
    ∙ ap (copied c.args.number) (c.index.ensures ∙ ap (λ (l : List Instance). get_or l c.in-Some.place c.index.result.now) c.self.view_is
    ∙ sym (instance_at_is c.args.of c.args.self.now c.in-Some.place c.index.result.now (sym c.place.ensures ∙ c.in-Some.is))) in
    let room : c.reserve.new.self.items ≡ c.self.inside.instances.items = c.in_ok-reserve.ensures.items in
    let end : c.len-last.result ≡ length c.self.inside.instances.items = omega (arith, ap length room, c.reserve.new.self.ok.0) in
    let added : c.put.new.items.items ≡ c.args.self.now ++ copied c.args.number (instance_at c.args.of c.args.self.now) ∷ [] =
    c.put.ensures ∙ ap (λ (l : List Instance). insert l c.len-last.result c.in_ok-clone-in-Some.clone) room
    ∙ ap (λ (n : ℕ). insert c.self.inside.instances.items n c.in_ok-clone-in-Some.clone) end
    ∙ insert_end c.self.inside.instances.items c.in_ok-clone-in-Some.clone
    ∙ ap₂ (λ (l : List Instance) (x : Instance). l ++ x ∷ []) c.self.view_is clone_is in
    added

pub returns-clause-kept : goal.returns-clause-kept
returns-clause-kept c =
    let clone_is : c.in_ok-clone-in-Some.clone ≡ copied c.args.number (instance_at c.args.of c.args.self.now) =
    c.in_ok-clone-in-Some.ensures
    ∙ ap (copied c.args.number) (c.index.ensures ∙ ap (λ (l : List Instance). get_or l c.in-Some.place c.index.result.now) c.self.view_is
    ∙ sym (instance_at_is c.args.of c.args.self.now c.in-Some.place c.index.result.now (sym c.place.ensures ∙ c.in-Some.is))) in
    let room : c.reserve.new.self.items ≡ c.self.inside.instances.items = c.in_ok-reserve.ensures.items in
    let end : c.len-last.result ≡ length c.self.inside.instances.items = omega (arith, ap length room, c.reserve.new.self.ok.0) in
    let added : c.put.new.items.items ≡ c.args.self.now ++ copied c.args.number (instance_at c.args.of c.args.self.now) ∷ [] =
    c.put.ensures ∙ ap (λ (l : List Instance). insert l c.len-last.result c.in_ok-clone-in-Some.clone) room
    ∙ ap (λ (n : ℕ). insert c.self.inside.instances.items n c.in_ok-clone-in-Some.clone) end
    ∙ insert_end c.self.inside.instances.items c.in_ok-clone-in-Some.clone
    ∙ ap₂ (λ (l : List Instance) (x : Instance). l ++ x ∷ []) c.self.view_is clone_is in
    λ n l. ap (live n) added ∙ live-pushed n c.args.self.now (copied c.args.number (instance_at c.args.of c.args.self.now)) l
