use Rattle.std.proofs.Common.{◌≡◌, ℕ, ◌<◌, length}
use Rattle.std.specs.Prelude.{slice_index}
use Rattle.link_graph.specs.DepthTable.{IsDepth}
use Rattle.link_graph.proofs.depth.depths.Given as goal

abbrev pub invariant-loop-block : goal.invariant-loop-block
invariant-loop-block l = record {
  each : length l.depths.items ≡ length l.graph;
  below : (a : ℕ) → a < length l.graph → slice_index l.ranks a < l.block-index → IsDepth l.graph l.counts l.ranks l.depths.items a;
}
