use Rattle.std.proofs.Common.{◌≡◌, ℕ, ◌<◌, ◌≤◌, ◌⊎◌, Some}
use Rattle.std.specs.Prelude.{slice_get, slice_index}
use Rattle.link_graph.proofs.depth.deepest.Given as goal

abbrev pub invariant-loop-block : goal.invariant-loop-block
invariant-loop-block l = record {
  most : (k c : ℕ) → k < l.block-index → slice_get l.blocks k ≡ Some c → slice_index l.depths c ≤ l.most;
  one : (l.most ≡ 0) ⊎ ((k : ℕ) × (c : ℕ) × (slice_get l.blocks k ≡ Some c) × (slice_index l.depths c ≡ l.most));
}
