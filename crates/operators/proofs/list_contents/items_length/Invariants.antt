use Rattle.std.proofs.Common.{◌≡◌, ◌≤◌, ◌*◌, length, take}
use Rattle.std.specs.List.{sum_by}
use Rattle.scratch_values.specs.declared.value.Value.{Value}
use Rattle.operators.specs.Pieces.{piece}
use Rattle.operators.proofs.list_contents.items_length.Given as goal

-- the length of the items so far
abbrev pub invariant-loop-item : goal.invariant-loop-item
invariant-loop-item l = record {
  value : l.total ≡ sum_by (λ (v : Value). length (piece l.spaced v)) (take l.item-index l.items);
  small : l.total ≤ l.item-index * 1048577;
}
