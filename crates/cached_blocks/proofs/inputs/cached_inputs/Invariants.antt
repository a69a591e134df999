use Rattle.std.proofs.Common.{◌≡◌, ◌++◌, drop, map}
use Rattle.std.specs.List.{filter_map}
use Rattle.project_spec.specs.Trees.{operand}
use Rattle.cached_blocks.specs.Cached.{sheet_with, with_plugged}
use Rattle.cached_blocks.proofs.inputs.cached_inputs.Given as goal

-- the inputs so far, and those that are left
abbrev pub invariant-loop-entry : goal.invariant-loop-entry
invariant-loop-entry l = l.cached ++ map (with_plugged l.blocks) (filter_map (operand (sheet_with l.blocks l.refs) l.k) (drop l.entry-index l.inputs)) ≡ map (with_plugged l.blocks) (filter_map (operand (sheet_with l.blocks l.refs) l.k) l.inputs)
