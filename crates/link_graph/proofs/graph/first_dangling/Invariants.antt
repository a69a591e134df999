use Rattle.std.proofs.Common.{ℕ, ◌<◌, map, length}
use Rattle.link_graph.specs.Links.{Links}
use Rattle.link_graph.proofs.graph.first_dangling.Given as goal

abbrev pub invariant-loop-block : goal.invariant-loop-block
invariant-loop-block l = (b c : ℕ) → b < l.block → Links (map (λ r. r.items) l.rows) b c → c < length l.rows
