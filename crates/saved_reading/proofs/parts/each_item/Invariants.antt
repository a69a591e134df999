use Rattle.std.proofs.Common.{◌≡◌, length, map, drop}
use Rattle.saved_spec.specs.Shapes.{each_from}
use Rattle.serde_json.specs.View.{view}
use Rattle.json_shapes.specs.Each.{after}
use Rattle.saved_reading.proofs.parts.each_item.Given as goal

-- the parts so far, one for each item, and those that are left
abbrev pub invariant-loop-i : goal.invariant-loop-i
invariant-loop-i g l =
    (after (map g.T.Shaped.seen l.parts) (each_from l.i g.T.Shaped.shape l.place (map view (drop l.i l.items)))
    ≡ each_from 0 g.T.Shaped.shape l.place (map view l.items))
    × (length l.parts ≡ l.i)
