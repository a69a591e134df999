use Rattle.std.proofs.Common.{◌≡◌, ◌++◌, drop}
use Rattle.report_command.specs.Unknown.{unknown_names}
use Rattle.report_command.proofs.unknown.push_names.Given as goal

-- the names so far, and those that are left
abbrev pub invariant-loop-k : goal.invariant-loop-k
invariant-loop-k l = l.names ++ unknown_names (drop l.k l.blocks) (drop l.k l.flags) ≡ l.fn.names ++ unknown_names l.blocks l.flags
