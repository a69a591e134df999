use Rattle.std.proofs.Common.{length, sym, ap, ◌∙◌, arith}
use Rattle.variables.proofs.Kept.{short_read, short_is}
use Rattle.variables.proofs.Shapes.{items_read, items_unread}
use Rattle.variables.proofs.state.Variables.items.Goals as goal

pub returns-in-Some-clause-items : goal.returns-in-Some-clause-items
returns-in-Some-clause-items c =
    items_read c.args.of c.args.index (record { stores = c.self.inside.stores.items; file_monitors = c.self.inside.file_monitors; made = c.self.inside.made }) c.args.self.now c.in-Some.place c.index.result.now c.self.inside.nothing c.items.result.now
    c.self.view_is (sym c.place.ensures ∙ c.in-Some.is) c.index.ensures c.self.invariant.nothing_is c.items.ensures

pub returns-in-Some-clause-few : goal.returns-in-Some-clause-few
returns-in-Some-clause-few c =
    let all = short_is c.args.of (record { stores = c.self.inside.stores.items; file_monitors = c.self.inside.file_monitors; made = c.self.inside.made }) c.args.self.now c.self.inside.zero c.self.inside.nothing c.in-Some.place c.index.result.now c.self.view_is (sym c.place.ensures ∙ c.in-Some.is) c.index.ensures c.self.invariant in
    short_read c.index.result.now c.args.index c.self.inside.nothing c.items.result.now all (omega (arith, ap length c.self.invariant.nothing_is)) c.items.ensures

pub returns-in-None-clause-items : goal.returns-in-None-clause-items
returns-in-None-clause-items c = items_unread c.args.of c.args.index c.args.self.now c.self.inside.nothing (sym c.place.ensures ∙ c.in-None.is) c.self.invariant.nothing_is
