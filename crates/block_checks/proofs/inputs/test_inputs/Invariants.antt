use Rattle.project_spec.specs.Refusals.{Inputs}
use Rattle.block_checks.specs.Stops.{PassesBelow}
use Rattle.block_checks.proofs.inputs.test_inputs.Given as goal

abbrev pub invariant-loop-block : goal.invariant-loop-block
invariant-loop-block l = PassesBelow l.target l.blocks Inputs l.block
