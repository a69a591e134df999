use Rattle.std.proofs.Common.{◌≡◌, ◌++◌, drop}
use Rattle.std.specs.Prelude.{flat_map}
use Rattle.report_command.specs.Unknown.{unknown_line}
use Rattle.report_command.proofs.unknown.push_lines.Given as goal

-- the lines so far, and those that are left
abbrev pub invariant-loop-name : goal.invariant-loop-name
invariant-loop-name l = l.out.items ++ flat_map (unknown_line l.names) (drop l.name-index l.firsts) ≡ l.fn.out.items ++ flat_map (unknown_line l.names) l.firsts
