use Rattle.std.proofs.Common.{◌≡◌, ℕ, ◌<◌, ◌≤◌, Some}
use Rattle.std.specs.Prelude.{slice_get, slice_index}
use Rattle.link_graph.specs.Links.{links_of}
use Rattle.link_graph.proofs.cycles.never_rise.Given as goal

abbrev pub invariant-loop-block : goal.invariant-loop-block
invariant-loop-block l = (b k c : ℕ) → b < l.block → slice_get (links_of l.graph b) k ≡ Some c → slice_index l.numbers c ≤ slice_index l.numbers b
