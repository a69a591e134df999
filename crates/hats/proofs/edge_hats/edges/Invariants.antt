use Rattle.std.proofs.Common.{◌≡◌, ◌++◌, reverse}
use Rattle.std.specs.Prelude.{flat_map}
use Rattle.machine_spec.specs.Starting.{pairs_of}
use Rattle.project_check.specs.Loaded.{program_of}
use Rattle.hats.specs.Edges.{is_edge, among}
use Rattle.hats.proofs.edge_hats.edges.Given as goal

-- the edge hats so far, and those of the instances that are left
abbrev pub invariant-loop-instance : goal.invariant-loop-instance
invariant-loop-instance l =
    l.edges ++ among l.threads (flat_map (pairs_of (program_of l.project) is_edge) (reverse l.instance-iterator.iter.rest.now))
    ≡ among l.threads (flat_map (pairs_of (program_of l.project) is_edge) (reverse l.targets))
