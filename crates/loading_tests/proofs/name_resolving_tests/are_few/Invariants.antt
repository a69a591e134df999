use Rattle.std.proofs.Common.{◌≡◌, ◌≤◌, take}
use Rattle.std.specs.List.{sum_by}
use Rattle.name_resolving.specs.Room.{parts}
use Rattle.loading_tests.proofs.name_resolving_tests.are_few.Given as goal

abbrev pub invariant-loop-block : goal.invariant-loop-block
invariant-loop-block l = record {
  so_far : l.sum ≡ sum_by parts (take l.block-index l.blocks);
  few : l.sum ≤ 1002000;
}
