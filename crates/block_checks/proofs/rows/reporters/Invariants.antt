use Rattle.std.proofs.Common.{◌≡◌, take, map}
use Rattle.block_checks.specs.Rows.{is_reporter}
use Rattle.block_checks.proofs.rows.reporters.Given as goal

abbrev pub invariant-loop-block : goal.invariant-loop-block
invariant-loop-block l = l.reporters.items ≡ map is_reporter (take l.block-index l.blocks)
