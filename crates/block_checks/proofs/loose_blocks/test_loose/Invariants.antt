use Rattle.block_checks.specs.Stops.{loose_test, PassesBelow}
use Rattle.block_checks.proofs.loose_blocks.test_loose.Given as goal

abbrev pub invariant-loop-block : goal.invariant-loop-block
invariant-loop-block l = PassesBelow l.target l.blocks (loose_test l.test) l.block
