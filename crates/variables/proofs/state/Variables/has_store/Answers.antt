use Rattle.std.proofs.Common.{sym}
use Rattle.variables.proofs.Gone.{store_held, store_free}
use Rattle.variables.proofs.state.Variables.has_store.Goals as goal

pub returns-clause-held : goal.returns-clause-held
returns-clause-held c = store_held c.args.of c.args.self.now c.place.result c.is_some.result (sym c.place.ensures) c.is_some.ensures

pub returns-clause-free : goal.returns-clause-free
returns-clause-free c = λ e. store_free c.args.of c.args.self.now c.place.result c.is_some.result (sym c.place.ensures) c.is_some.ensures e
