use Rattle.block_checks.specs.Kept.{blocks_in}
use Rattle.block_checks.specs.Stops.{loose_test, PassesBefore}
use Rattle.block_checks.proofs.test_order.test_all_loose.Given as goal

abbrev pub invariant-loop-target : goal.invariant-loop-target
invariant-loop-target l = PassesBefore (blocks_in l.tables) (loose_test l.test) l.target
