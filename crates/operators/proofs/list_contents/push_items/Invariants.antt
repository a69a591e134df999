use Rattle.std.proofs.Common.{◌≡◌, ◌++◌, take}
use Rattle.std.specs.Prelude.{flat_map, string_bytes}
use Rattle.operators.specs.Pieces.{piece}
use Rattle.operators.proofs.list_contents.push_items.Given as goal

-- the texts of the items so far
abbrev pub invariant-loop-item : goal.invariant-loop-item
invariant-loop-item l = string_bytes l.text ≡ string_bytes l.fn.text ++ flat_map (piece l.spaced) (take l.item-index l.items)
