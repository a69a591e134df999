use Rattle.std.proofs.Common.{take}
use Rattle.std.specs.List.{AllZip}
use Rattle.project_spec.specs.Refusals.{Cycles}
use Rattle.block_checks.specs.Kept.{blocks_in, IsKept}
use Rattle.block_checks.specs.Stops.{PassesBefore}
use Rattle.block_checks.proofs.test_order.link_all.Given as goal

abbrev pub invariant-loop-target : goal.invariant-loop-target
invariant-loop-target l = record {
  kept : AllZip IsKept (blocks_in (take l.target l.tables)) l.links.items;
  passes : PassesBefore (blocks_in l.tables) Cycles l.target;
}
