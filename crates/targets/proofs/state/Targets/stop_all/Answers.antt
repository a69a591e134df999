use Rattle.std.proofs.Common.{◌≡◌, ℕ, List, ◌++◌, length, take, drop, map, not, rules, refl, sym, ap, ◌∙◌, arith}
use Rattle.std.specs.Prelude.{nat_lt}
use Rattle.std.specs.List.{filter}
use Rattle.std.proofs.lemmas.Fn.{filter_same}
use Rattle.std.proofs.lemmas.List.{take_at, length-map}
use Rattle.machine_spec.specs.declared.instance.Instance.{Instance}
use Rattle.machine_spec.specs.Stopping.{cleared}
use Rattle.machine_spec.specs.Stores.{live}
use Rattle.targets.specs.Live.{numbers}
use Rattle.targets.proofs.Moves.{numbers-filter, numbers-map, kept_twice}
use Rattle.std.specs.Prelude.{option_map}
use Rattle.std.proofs.lemmas.Bool.Decides.{nat_tests}
use Rattle.targets.proofs.Same.{live-map, live-filter}
use Rattle.targets.proofs.state.Targets.stop_all.Goals as goal

kept : (c : goal.After-self-1) → c.retain-2.new.self.items ≡ filter (λ i. nat_lt i.number c.args.targets) c.self.inside.instances.items
kept c = filter_same _ (λ (i : Instance). nat_lt i.number c.args.targets) _ (λ x b f' t. search rules) _ _ c.retain-2.ensures.filtered

ids : (c : goal.After-self-1) → c.retain.new.self.items ≡ filter (λ n. nat_lt n c.args.targets) c.take-order.result.items
ids c = filter_same _ (λ (n : ℕ). nat_lt n c.args.targets) _ (λ x b f' t. search rules) _ _ c.retain.ensures.filtered

cleared_is : (c : goal.After-self-1) → c.clear_all.new.instances ≡ map cleared c.retain-2.new.self.items
cleared_is c = c.clear_all.ensures ∙ ap (map cleared) c.deref_mut.ensures.value

whole : (c : goal.After-self-1) → take c.retain-2.new.self.len (c.clear_all.new.instances ++ drop (length c.clear_all.new.instances) c.retain-2.new.self.items) ≡ map cleared c.retain-2.new.self.items
whole c =
    take_at c.clear_all.new.instances (drop (length c.clear_all.new.instances) c.retain-2.new.self.items) c.retain-2.new.self.len
    (omega (arith, ap length (cleared_is c), length-map c.retain-2.new.self.items cleared, c.retain-2.new.self.ok.0))
    ∙ cleared_is c

pub invariant_of-self : goal.invariant_of-self
invariant_of-self c =
    let order_is : c.take-order.result.items ≡ numbers c.self.inside.instances.items = c.take-order.ensures.ids ∙ c.self.invariant in
    c.put.ensures ∙ ids c ∙ ap (filter (λ n. nat_lt n c.args.targets)) order_is
    ∙ numbers-filter (λ n. nat_lt n c.args.targets) c.self.inside.instances.items
    ∙ ap numbers (sym (kept c))
    ∙ sym (numbers-map cleared c.retain-2.new.self.items (λ i. refl))
    ∙ ap numbers (sym (whole c))

pub returns-clause-new : goal.returns-clause-new
returns-clause-new c =
    whole c ∙ ap (map cleared) (kept c ∙ kept_twice (λ i. nat_lt i.number c.args.targets) c.self.inside.instances.items)
    ∙ ap (λ (l : List Instance). map cleared (filter (λ i. not (not (nat_lt i.number c.args.targets))) l)) c.self.view_is

pub returns-clause-originals : goal.returns-clause-originals
returns-clause-originals c = λ n lt.
    ap (live n) (whole c ∙ ap (map cleared) (kept c))
    ∙ live-map cleared (λ i. refl) n (filter (λ i. nat_lt i.number c.args.targets) c.self.inside.instances.items)
    ∙ ap (option_map cleared) (live-filter n (λ i. nat_lt i.number c.args.targets) c.self.inside.instances.items (λ i e. grind (arith, nat_tests))
    ∙ ap (live n) c.self.view_is)
