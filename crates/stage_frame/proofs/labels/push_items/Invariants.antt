use Rattle.std.proofs.Common.{◌≡◌, ◌++◌, drop}
use Rattle.std.specs.Prelude.{flat_map}
use Rattle.machine_spec.specs.FrameText.{item_line}
use Rattle.stage_frame.proofs.labels.push_items.Given as goal

-- the lines so far, and then those of the items that are left
abbrev pub invariant-loop-item : goal.invariant-loop-item
invariant-loop-item l = l.out.items ++ flat_map item_line (drop l.item-index l.items) ≡ l.fn.out.items ++ flat_map item_line l.items
