use Rattle.std.proofs.Common.{◌≡◌, drop}
use Rattle.std.specs.List.{filter_map}
use Rattle.project_spec.specs.Trees.{branch}
use Rattle.cached_blocks.specs.Cached.{branch_link}
use Rattle.cached_blocks.proofs.links.branch.Given as goal

-- the branch is among the inputs that are left
abbrev pub invariant-loop-own : goal.invariant-loop-own
invariant-loop-own l = branch_link l.name (filter_map branch (drop l.own-index l.inputs)) ≡ branch_link l.name (filter_map branch l.inputs)
