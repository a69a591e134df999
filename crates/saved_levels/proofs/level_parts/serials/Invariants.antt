use Rattle.std.proofs.Common.{◌≡◌, ◌++◌}
use Rattle.std.specs.Vec.Iter.{into_iter_items}
use Rattle.saved_levels.proofs.level_parts.serials.Given as goal

-- the numbers so far, and those that are left
abbrev pub invariant-loop-serial : goal.invariant-loop-serial
invariant-loop-serial l = l.serials ++ into_iter_items l.serial-iterator ≡ l.fn.told
