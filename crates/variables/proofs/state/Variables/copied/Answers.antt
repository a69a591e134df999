-- A copy of the store of the instance, or an empty one.
use Rattle.std.proofs.Common.{get_or, sym, subst, ap, ◌∙◌}
use Rattle.std.proofs.lemmas.List.Elements.{All-nil}
use Rattle.std.proofs.lemmas.Result.{IfOk-weaker}
use Rattle.machine_spec.specs.declared.variables.Store.{Store}
use Rattle.machine_spec.specs.Stores.{Variables}
use Rattle.variables.specs.Kept.{IsShort, HasShortLists}
use Rattle.variables.proofs.Kept.{short_is}
use Rattle.variables.proofs.Shapes.{store_at_is, store_at_none}
use Rattle.variables.proofs.state.Variables.copied.Goals as goal

pub returns-in-Some-clause-copy : goal.returns-in-Some-clause-copy
returns-in-Some-clause-copy c =
    IfOk-weaker c.copied.result _ _
    (λ copy e. e ∙ ap (λ (s : Store). record s { of = c.args.to })
    (c.index.ensures ∙ ap (λ (v : Variables). get_or v.stores c.in-Some.place c.index.result.now) c.self.view_is
    ∙ sym (store_at_is c.args.from c.args.self.now.stores c.in-Some.place c.index.result.now (sym c.place.ensures ∙ c.in-Some.is))))
    c.copied.ensures

pub returns-in-Some-clause-short : goal.returns-in-Some-clause-short
returns-in-Some-clause-short c =
    IfOk-weaker c.copied.result _ _
    (λ copy e. subst HasShortLists (sym e)
    (short_is c.args.from (record { stores = c.self.inside.stores.items; file_monitors = c.self.inside.file_monitors; made = c.self.inside.made }) c.args.self.now c.self.inside.zero c.self.inside.nothing c.in-Some.place c.index.result.now c.self.view_is (sym c.place.ensures ∙ c.in-Some.is) c.index.ensures c.self.invariant))
    c.copied.ensures

pub returns-in-None-clause-copy : goal.returns-in-None-clause-copy
returns-in-None-clause-copy c = c.empty.ensures ∙ ap (λ (s : Store). record s { of = c.args.to }) (sym (store_at_none c.args.from c.args.self.now.stores (sym c.place.ensures ∙ c.in-None.is)))

pub returns-in-None-clause-short : goal.returns-in-None-clause-short
returns-in-None-clause-short c = subst HasShortLists (sym c.empty.ensures) (All-nil IsShort)
