use Rattle.std.proofs.Common.{◌≡◌, ◌∙◌, sym, arith, rules, true}
use Rattle.evaluate.proofs.InOrder.{one-item, two-items, way-of-one, way-of-two}
use Rattle.evaluate.proofs.ways.way_of.Goals as goal

pub returns-in-len1 : goal.returns-in-len1
returns-in-len1 c =
    let block = c.args.block.now in
    let x = c.x-item.result in
    let is : block.in_order ≡ true = search rules in
    way-of-one block x.0 x.1 c.way_of_one.result c.requires is
    (sym c.as_slice.ensures ∙ one-item c.as_slice.result.now x (omega (arith, c.in-len1.len_at_least)) (omega (arith, c.in-len1.len_below)) c.x-item.is)
    c.way_of_one.ensures

pub returns-in-len2 : goal.returns-in-len2
returns-in-len2 c =
    let block = c.args.block.now in
    let x = c.x-item-then-this-lt3.result in
    let y = c.y-item.result in
    let is : block.in_order ≡ true = search rules in
    way-of-two block x.0 y.0 x.1 y.1 c.way_of_two.result c.requires is
    (sym c.as_slice.ensures ∙ two-items c.as_slice.result.now x y (omega (arith, c.in-len2.len_at_least)) (omega (arith, c.in-len2.len_below)) c.x-item-then-this-lt3.is c.y-item.is)
    c.way_of_two.ensures
