use Rattle.std.proofs.Common.{◌≡◌, ◌++◌, true}
use Rattle.std.specs.List.{list_all}
use Rattle.std.specs.Vec.Iter.{into_iter_items}
use Rattle.saved_stores.specs.Held.{is_numbered}
use Rattle.saved_stores.proofs.bubbles.edges.Given as goal

-- the edges so far, and those that are left
abbrev pub invariant-loop-block : goal.invariant-loop-block
invariant-loop-block l = record {
  all : l.edges ++ into_iter_items l.block-iterator ≡ l.fn.told;
  left : list_all is_numbered (into_iter_items l.block-iterator) ≡ true;
}
