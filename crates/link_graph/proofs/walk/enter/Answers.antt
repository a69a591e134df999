use Rattle.std.proofs.Common.{◌∷◌}
use Rattle.link_graph.proofs.Steps.{entered, entered_fewer, begun_more}
use Rattle.link_graph.proofs.walk.enter.Goals as goal

pub returns-clause-walk : goal.returns-clause-walk
returns-clause-walk c =
    let x = c.requires.walk in
    rw c.in_ok-push.ensures (entered _ _ _ _ (c.args.top ∷ c.args.walk.now.under) c.args.next x (c.requires.link, x.trail.0, x.trail.1) c.requires.fresh)

pub returns-clause-begun : goal.returns-clause-begun
returns-clause-begun c = λ b. begun_more _ _ b c.requires.fresh

pub returns-clause-fewer : goal.returns-clause-fewer
returns-clause-fewer c = rw c.in_ok-push.ensures (entered_fewer c.args.graph.now c.args.walk.now.marks.items c.args.top c.args.walk.now.under c.args.next c.requires.walk.marked c.requires.fresh)
