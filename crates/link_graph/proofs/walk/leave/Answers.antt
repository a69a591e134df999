use Rattle.std.proofs.Common.{◌∷◌, refl, ◌∙◌, sym}
use Rattle.link_graph.proofs.Steps.{left_walk, walk_same, begun_done, left_fewer}
use Rattle.link_graph.proofs.walk.leave.Goals as goal

pub returns-in-Some-clause-walk : goal.returns-in-Some-clause-walk
returns-in-Some-clause-walk c =
    let x = c.requires.walk in
    walk_same _ _ _ _ _ _ _ _ _ _ (sym (c.len-rank.ensures ∙ c.args.walk.now.order.ok.0)) (sym c.in_ok-push.ensures.items) c.in-Some.ensures (left_walk _ _ _ x.trail.0.opened _ _ c.args.top c.args.walk.now.under x refl c.requires.end)

pub returns-in-Some-clause-begun : goal.returns-in-Some-clause-begun
returns-in-Some-clause-begun c = λ b. begun_done _ _ b c.requires.walk.trail.0.opened

pub returns-in-Some-clause-fewer : goal.returns-in-Some-clause-fewer
returns-in-Some-clause-fewer c = rw c.in-Some.ensures (left_fewer c.args.graph.now c.args.walk.now.marks.items c.args.top (c.in-Some.frame ∷ c.pop.new.self) c.requires.walk.trail.0.opened)

pub returns-in-None-clause-walk : goal.returns-in-None-clause-walk
returns-in-None-clause-walk c =
    let x = c.requires.walk in
    (walk_same _ _ _ _ _ _ _ _ _ _ (sym (c.len-rank.ensures ∙ c.args.walk.now.order.ok.0)) (sym c.in_ok-push.ensures.items) c.in-None.ensures.0 (left_walk _ _ _ x.trail.0.opened _ _ c.args.top c.args.walk.now.under x refl c.requires.end), c.in-None.ensures.1)

pub returns-in-None-clause-begun : goal.returns-in-None-clause-begun
returns-in-None-clause-begun c = λ b. begun_done _ _ b c.requires.walk.trail.0.opened
