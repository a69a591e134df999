use Rattle.std.proofs.Common.{◌≡◌, ℕ, ◌<◌, []}
use Rattle.link_graph.specs.Walk.{IsWalk, IsBegun}
use Rattle.link_graph.proofs.walk.walk_all.Given as goal

abbrev pub invariant-loop-root : goal.invariant-loop-root
invariant-loop-root l = record {
  walk : IsWalk l.graph l.walk.marks.items l.walk.ranks.items l.walk.order.items [];
  under : l.walk.under ≡ [];
  begun : (b : ℕ) → b < l.root → IsBegun l.walk.marks.items b;
}
