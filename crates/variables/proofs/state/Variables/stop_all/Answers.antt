use Rattle.std.proofs.Common.{◌≡◌, List, not, rules, sym, subst, ap, ◌∙◌, arith}
use Rattle.std.specs.Prelude.{nat_lt}
use Rattle.std.specs.List.{filter}
use Rattle.std.proofs.lemmas.Fn.{filter_same}
use Rattle.std.proofs.lemmas.Bool.Decides.{nat_tests}
use Rattle.machine_spec.specs.declared.variables.Store.{Store}
use Rattle.machine_spec.specs.Stores.{Variables, store_at}
use Rattle.variables.specs.Kept.{IsKept}
use Rattle.variables.proofs.Gone.{store_at-filtered, kept_twice}
use Rattle.variables.proofs.Short.{kept-filter}
use Rattle.variables.proofs.state.Variables.stop_all.Goals as goal

kept : (c : goal.After-retain) → c.retain.new.self.items ≡ filter (λ s. nat_lt s.of c.args.targets) c.self.inside.stores.items
kept c = filter_same _ (λ s. nat_lt s.of c.args.targets) _ (λ x b f' t. search rules) _ _ c.retain.ensures.filtered

pub invariant_of-self : goal.invariant_of-self
invariant_of-self c =
    let P : List Store → Type 0 = λ l. IsKept l c.self.inside.zero c.self.inside.nothing in
    subst P (sym (kept c)) (kept-filter (λ s. nat_lt s.of c.args.targets) c.self.inside.stores.items c.self.inside.zero c.self.inside.nothing c.self.invariant)

pub returns-clause-new : goal.returns-clause-new
returns-clause-new c =
    ap (λ (l : List Store). record { stores = l; file_monitors = c.self.inside.file_monitors; made = c.self.inside.made })
    (kept c ∙ kept_twice (λ s. nat_lt s.of c.args.targets) c.self.inside.stores.items)
    ∙ ap (λ (v : Variables). record v { stores = filter (λ s. not (not (nat_lt s.of c.args.targets))) v.stores }) c.self.view_is

pub returns-clause-others : goal.returns-clause-others
returns-clause-others c = λ n lt.
    ap (store_at n) (kept c)
    ∙ store_at-filtered n (λ s. nat_lt s.of c.args.targets) c.self.inside.stores.items (λ s e. grind (arith, nat_tests))
    ∙ ap (λ (v : Variables). store_at n v.stores) c.self.view_is
