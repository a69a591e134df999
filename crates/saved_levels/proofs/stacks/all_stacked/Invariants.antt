use Rattle.std.proofs.Common.{map}
use Rattle.std.specs.Vec.Iter.{into_iter_items}
use Rattle.saved_parts.specs.Telling.{level_of}
use Rattle.saved_levels.proofs.Together.{SoFar}
use Rattle.saved_levels.proofs.stacks.all_stacked.Given as goal

-- the levels so far, and those that are left
abbrev pub invariant-loop-told : goal.invariant-loop-told
invariant-loop-told l = SoFar l.site (map level_of l.fn.told.items) l.made.items (map level_of (into_iter_items l.told-iterator))
