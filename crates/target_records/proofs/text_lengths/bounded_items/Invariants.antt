use Rattle.std.proofs.Common.{◌≡◌, ◌++◌, map, drop}
use Rattle.std.specs.Prelude.{flat_map}
use Rattle.std.specs.List.{enumerate_from}
use Rattle.project_spec.specs.FileValues.{value_in}
use Rattle.project_spec.specs.Limits.{item_measures, first_too_many}
use Rattle.target_records.proofs.text_lengths.bounded_items.Given as goal

-- the items so far, and those that are left
abbrev pub invariant-loop-i : goal.invariant-loop-i
invariant-loop-i l = record {
  all : l.bounded ++ map value_in (drop l.i l.items) ≡ map value_in l.items;
  many : first_too_many (flat_map (item_measures l.place) (enumerate_from l.i (map value_in (drop l.i l.items)))) ≡ first_too_many (flat_map (item_measures l.place) (enumerate_from 0 (map value_in l.items)));
}
