-- The copy is put behind the other stores, none of which is of its number.
use Rattle.std.proofs.Common.{◌≡◌, List, ◌++◌, ◌∷◌, [], None, sym, subst, ap, ◌∙◌}
use Rattle.std.specs.Prelude.{◌==◌}
use Rattle.std.specs.List.{find, All}
use Rattle.std.proofs.lemmas.List.Elements.{All-push}
use Rattle.machine_spec.specs.declared.variables.Store.{Store}
use Rattle.machine_spec.specs.Stores.{Variables, store_at}
use Rattle.variables.specs.Kept.{HasShortLists}
use Rattle.variables.specs.Distinct.{numbers, IsDistinct}
use Rattle.variables.proofs.Apart.{IsDistinct-added}
use Rattle.variables.proofs.Gone.{store_at-pushed_other, store_at-pushed}
use Rattle.variables.proofs.state.Variables.copy_for_clone.Goals as goal

free : (c : goal.In_ok-push) → find (λ s. s.of == c.in_ok-copy.copy.of) c.self.inside.stores.items ≡ None
free c =
    ap (λ (s : Store). find (λ (x : Store). x.of == s.of) c.self.inside.stores.items) c.in_ok-copy.ensures.copy
    ∙ ap (λ (v : Variables). find (λ (x : Store). x.of == c.args.to) v.stores) c.self.view_is ∙ c.requires

pub invariant_of-self-2 : goal.invariant_of-self-2
invariant_of-self-2 c =
    let P : List Store → Type 0 = λ l. IsDistinct (numbers l) in
    let Q : List Store → Type 0 = All HasShortLists in
    record {
      distinct = subst P (sym c.in_ok-push.ensures.items) (IsDistinct-added c.self.inside.stores.items c.in_ok-copy.copy (free c) c.self.invariant.distinct);
      short = subst Q (sym c.in_ok-push.ensures.items) (All-push HasShortLists c.self.inside.stores.items c.in_ok-copy.copy c.self.invariant.short c.in_ok-copy.ensures.short);
      zero_is = c.self.invariant.zero_is;
      nothing_is = c.self.invariant.nothing_is;
    }

pub returns-clause-ok : goal.returns-clause-ok
returns-clause-ok c =
    ap (λ (l : List Store). record { stores = l; file_monitors = c.self.inside.file_monitors; made = c.self.inside.made })
    (c.in_ok-push.ensures.items ∙ ap (λ (s : Store). c.self.inside.stores.items ++ s ∷ []) c.in_ok-copy.ensures.copy)
    ∙ ap (λ (v : Variables). record v { stores = v.stores ++ record (store_at c.args.from c.args.self.now.stores) { of = c.args.to } ∷ [] }) c.self.view_is

pub returns-clause-others : goal.returns-clause-others
returns-clause-others c = λ n ne.
    ap (store_at n) c.in_ok-push.ensures.items
    ∙ store_at-pushed_other n c.self.inside.stores.items c.in_ok-copy.copy (λ e. ne (e ∙ ap (λ (s : Store). s.of) c.in_ok-copy.ensures.copy))
    ∙ ap (λ (v : Variables). store_at n v.stores) c.self.view_is

pub returns-clause-copy : goal.returns-clause-copy
returns-clause-copy c =
    ap (store_at c.args.to) c.in_ok-push.ensures.items
    ∙ ap (λ (s : Store). store_at s.of (c.self.inside.stores.items ++ c.in_ok-copy.copy ∷ [])) (sym c.in_ok-copy.ensures.copy)
    ∙ store_at-pushed c.self.inside.stores.items c.in_ok-copy.copy (free c) ∙ c.in_ok-copy.ensures.copy
