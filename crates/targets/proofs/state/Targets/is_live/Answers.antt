use Rattle.std.proofs.Common.{sym, subst}
use Rattle.std.proofs.Common.{Bool, IsTrue}
use Rattle.targets.specs.Live.{IsLive}
use Rattle.targets.proofs.Cast.{live_by}
use Rattle.targets.proofs.state.Targets.is_live.Goals as goal

pub returns : goal.returns
returns c =
    let P : Bool → Type 0 = λ b. (IsTrue b → IsLive c.args.id c.args.self.now) × (IsLive c.args.id c.args.self.now → IsTrue b) in
    subst P (sym c.is_some.ensures) (live_by c.args.id c.args.self.now c.place.result (sym c.place.ensures))
