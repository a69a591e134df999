use Rattle.std.proofs.Common.{◌≡◌, drop}
use Rattle.project_check.specs.Loaded.{sheet_at}
use Rattle.saved_spec.specs.Levels.{script_among}
use Rattle.saved_levels.specs.Found.{scripts_in}
use Rattle.saved_levels.proofs.chains.in_inputs.Given as goal

-- the block is in the first of the inputs that are left
abbrev pub invariant-loop-entry : goal.invariant-loop-entry
invariant-loop-entry l =
    script_among l.wanted (scripts_in (sheet_at l.target l.project) (drop l.entry-index l.inputs)) ≡ script_among l.wanted (scripts_in (sheet_at l.target l.project) l.inputs)
