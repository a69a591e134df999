use Rattle.std.proofs.Common.{◌≡◌, drop, map}
use Rattle.opcode_table.specs.Views.{input_of}
use Rattle.project_spec.specs.Linked.{missing_in}
use Rattle.block_checks.proofs.inputs.missing_in.Given as goal

abbrev pub invariant-loop-wanted : goal.invariant-loop-wanted
invariant-loop-wanted l = missing_in l.block (map input_of l.inputs) ≡ missing_in l.block (map input_of (drop l.wanted-index l.inputs))
