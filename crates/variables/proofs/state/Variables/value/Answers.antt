use Rattle.std.proofs.Common.{sym, ◌∙◌}
use Rattle.variables.proofs.Shapes.{value_read, value_unread}
use Rattle.variables.proofs.state.Variables.value.Goals as goal

pub returns-in-Some : goal.returns-in-Some
returns-in-Some c =
    value_read c.args.of c.args.index (record { stores = c.self.inside.stores.items; file_monitors = c.self.inside.file_monitors; made = c.self.inside.made }) c.args.self.now c.in-Some.place c.index.result.now c.self.inside.zero c.value.result.now
    c.self.view_is (sym c.place.ensures ∙ c.in-Some.is) c.index.ensures c.self.invariant.zero_is c.value.ensures

pub returns-in-None : goal.returns-in-None
returns-in-None c = value_unread c.args.of c.args.index c.args.self.now c.self.inside.zero (sym c.place.ensures ∙ c.in-None.is) c.self.invariant.zero_is
