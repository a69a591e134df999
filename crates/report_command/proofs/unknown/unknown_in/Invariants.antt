use Rattle.std.proofs.Common.{map, take}
use Rattle.project_json.specs.View.{tree}
use Rattle.report_command.specs.Unknown.{AreUnknown, blocks_of}
use Rattle.report_command.proofs.unknown.unknown_in.Given as goal

-- the names of the targets so far
abbrev pub invariant-loop-target : goal.invariant-loop-target
invariant-loop-target l = AreUnknown (map (λ j. blocks_of (tree j)) (take l.target-index l.target-items)) l.names
