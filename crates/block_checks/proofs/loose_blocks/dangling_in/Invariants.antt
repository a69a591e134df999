use Rattle.std.proofs.Common.{◌≡◌, drop}
use Rattle.block_checks.specs.Rows.{dangling_in}
use Rattle.block_checks.proofs.loose_blocks.dangling_in.Given as goal

abbrev pub invariant-loop-input : goal.invariant-loop-input
invariant-loop-input l = dangling_in l.inputs ≡ dangling_in (drop l.input-index l.inputs)
