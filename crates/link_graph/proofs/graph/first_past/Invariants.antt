use Rattle.std.proofs.Common.{◌≡◌, ℕ, ◌<◌, Some}
use Rattle.std.specs.Prelude.{slice_get}
use Rattle.link_graph.proofs.graph.first_past.Given as goal

abbrev pub invariant-loop-link : goal.invariant-loop-link
invariant-loop-link l = (k c : ℕ) → k < l.link-index → slice_get l.links k ≡ Some c → c < l.blocks
