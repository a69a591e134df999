use Rattle.std.proofs.Common.{◌≡◌, ◌++◌, drop}
use Rattle.std.specs.Prelude.{flat_map}
use Rattle.hats.specs.Edges.{is_edge, among}
use Rattle.hats.specs.Rounds.{passing_at}
use Rattle.hats.proofs.edge_hats.push_heads.Given as goal

-- the edge hats so far, and those of the heads that are left
abbrev pub invariant-loop-head : goal.invariant-loop-head
invariant-loop-head l =
    l.edges ++ among l.threads (flat_map (passing_at l.project is_edge l.instance) (drop l.head-index l.heads))
    ≡ l.initial.edges ++ among l.threads (flat_map (passing_at l.project is_edge l.instance) l.heads)
