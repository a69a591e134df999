use Rattle.std.proofs.Common.{◌≡◌, drop, map}
use Rattle.scratch_values.specs.Named.{item_named}
use Rattle.scratch_values.specs.Held.{pair_of}
use Rattle.scratch_values.proofs.args.value_in_many.Given as goal

abbrev pub invariant-loop-input : goal.invariant-loop-input
invariant-loop-input l = item_named l.name (map pair_of (drop l.input-index l.inputs)) ≡ item_named l.name (map pair_of l.inputs)
