use Rattle.block_checks.specs.Rows.{AreHeads}
use Rattle.block_checks.proofs.rows.heads.Given as goal

abbrev pub invariant-loop-block : goal.invariant-loop-block
invariant-loop-block l = AreHeads l.blocks l.heads.items l.block
