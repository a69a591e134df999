use Rattle.std.proofs.Common.{◌≡◌, ◌++◌, ◌≤◌, drop, length, filter}
use Rattle.report_command.specs.Unknown.{firsts, most_told}
use Rattle.report_command.proofs.Firsts.{is_new}
use Rattle.report_command.proofs.unknown.firsts.Given as goal

-- the names so far, and those that are left and new
abbrev pub invariant-loop-name : goal.invariant-loop-name
invariant-loop-name l = record {
  seen : l.seen ++ filter (is_new l.seen) (firsts (drop l.name-index l.names)) ≡ firsts l.names;
  few : length l.seen ≤ most_told;
}
