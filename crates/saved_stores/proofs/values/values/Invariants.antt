use Rattle.std.proofs.Common.{◌≡◌, ◌++◌, map, true}
use Rattle.std.specs.List.{list_all}
use Rattle.std.specs.Vec.Iter.{into_iter_items}
use Rattle.saved_parts.specs.Telling.{value_of}
use Rattle.saved_spec.specs.Rules.{is_short}
use Rattle.saved_stores.proofs.values.values.Given as goal

-- the values so far, and those that are left
abbrev pub invariant-loop-told : goal.invariant-loop-told
invariant-loop-told l = record {
  all : l.values ++ map value_of (into_iter_items l.told-iterator) ≡ map value_of l.fn.told;
  left : list_all is_short (map value_of (into_iter_items l.told-iterator)) ≡ true;
}
