use Rattle.std.proofs.Common.{◌≡◌, ◌≤◌, drop}
use Rattle.std.specs.List.{enumerate_from}
use Rattle.project_spec.specs.Limits.{counts_from, first_too_many}
use Rattle.project_check.proofs.sizes.test_blocks.Given as goal

-- the blocks so far are few enough, and those that are left tell what all tell
abbrev pub invariant-loop-t : goal.invariant-loop-t
invariant-loop-t l = record {
  many : first_too_many (counts_from l.total (enumerate_from l.t (drop l.t l.tables))) ≡ first_too_many (counts_from 0 (enumerate_from 0 l.tables));
  few : l.total ≤ 200000;
}
