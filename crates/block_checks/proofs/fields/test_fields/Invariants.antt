use Rattle.project_spec.specs.Refusals.{Fields}
use Rattle.block_checks.specs.Stops.{PassesBelow}
use Rattle.block_checks.proofs.fields.test_fields.Given as goal

abbrev pub invariant-loop-block : goal.invariant-loop-block
invariant-loop-block l = PassesBelow l.target l.blocks Fields l.block
