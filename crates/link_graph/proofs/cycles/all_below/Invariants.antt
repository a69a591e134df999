use Rattle.std.proofs.Common.{◌≡◌, ℕ, ◌<◌, Some}
use Rattle.std.specs.Prelude.{slice_get, slice_index}
use Rattle.link_graph.proofs.cycles.all_below.Given as goal

abbrev pub invariant-loop-link : goal.invariant-loop-link
invariant-loop-link l = (k c : ℕ) → k < l.link-index → slice_get l.links k ≡ Some c → slice_index l.numbers c < l.limit
