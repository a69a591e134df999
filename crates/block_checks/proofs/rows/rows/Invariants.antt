use Rattle.std.proofs.Common.{◌≡◌, take, map}
use Rattle.block_checks.specs.Rows.{rows}
use Rattle.block_checks.proofs.rows.rows.Given as goal

abbrev pub invariant-loop-block : goal.invariant-loop-block
invariant-loop-block l = map (λ r. r.items) l.rows.items ≡ rows (take l.block-index l.blocks)
