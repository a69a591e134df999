use Rattle.std.proofs.Common.{◌≡◌, drop}
use Rattle.scratch_values.specs.Named.{item_named}
use Rattle.scratch_values.proofs.params.value_named.Given as goal

abbrev pub invariant-loop-pair : goal.invariant-loop-pair
invariant-loop-pair l = item_named l.name (drop l.pair-index l.pairs) ≡ item_named l.name l.pairs
