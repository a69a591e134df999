use Rattle.std.proofs.Common.{◌≡◌, ◌++◌, map, true}
use Rattle.std.specs.List.{list_all}
use Rattle.std.specs.Vec.Iter.{into_iter_items}
use Rattle.saved_parts.specs.Telling.{value_of}
use Rattle.saved_spec.specs.Rules.{is_short}
use Rattle.saved_stores.proofs.values.lists.Given as goal

-- the lists so far, and those that are left
abbrev pub invariant-loop-told : goal.invariant-loop-told
invariant-loop-told l = record {
  all : l.lists ++ map (map value_of) (into_iter_items l.told-iterator) ≡ map (map value_of) l.fn.told;
  left : list_all (list_all is_short) (map (map value_of) (into_iter_items l.told-iterator)) ≡ true;
}
