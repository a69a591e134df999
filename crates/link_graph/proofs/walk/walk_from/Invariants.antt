use Rattle.std.proofs.Common.{ℕ, ◌+◌, ◌∷◌}
use Rattle.link_graph.specs.Walk.{IsWalk, IsBegun, left, ahead}
use Rattle.link_graph.proofs.walk.walk_from.Given as goal

abbrev pub invariant-loop-frame : goal.invariant-loop-frame
invariant-loop-frame l = record {
  walk : IsWalk l.graph l.walk.marks.items l.walk.ranks.items l.walk.order.items (l.top ∷ l.walk.under);
  begun : (b : ℕ) → IsBegun l.fn.walk.marks.items b → IsBegun l.walk.marks.items b;
  root : IsBegun l.walk.marks.items l.root;
}

abbrev pub decreases-loop-frame : goal.decreases-loop-frame
decreases-loop-frame l = left l.graph l.walk.marks.items + ahead l.graph (l.top ∷ l.walk.under)
