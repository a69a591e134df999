use Rattle.std.proofs.Common.{◌≡◌, ◌++◌, map}
use Rattle.std.specs.List.{All}
use Rattle.std.specs.Vec.Iter.{into_iter_items}
use Rattle.saved_parts.specs.Telling.{instance_of, store_of}
use Rattle.saved_stores.specs.Held.{IsHeld}
use Rattle.saved_stores.proofs.instances.instances_told.Given as goal

-- the instances and the stores so far, and those that are left
abbrev pub invariant-loop-told : goal.invariant-loop-told
invariant-loop-told l = record {
  instances : l.instances.items ++ map instance_of (into_iter_items l.told-iterator) ≡ map instance_of l.fn.told;
  stores : l.stores.items ++ map store_of (into_iter_items l.told-iterator) ≡ map store_of l.fn.told;
  left : All IsHeld (into_iter_items l.told-iterator);
}
