-- The levels that are left have as many markers to look at as are left.
use Rattle.std.proofs.Common.{◌≡◌, ◌-◌}
use Rattle.machine_spec.specs.Pending as machine
use Rattle.project_check.specs.Loaded.{sheet_at}
use Rattle.thread_frames.specs.Fit.{AllUnder}
use Rattle.thread_frames.specs.Reading.{pending, beneath}
use Rattle.thread_moves.specs.Moves.{levels_at}
use Rattle.thread_moves.proofs.procedure_calls.is_recursive.Given as goal

abbrev pub invariant-loop-looked_at : goal.invariant-loop-looked_at
invariant-loop-looked_at l = record {
  under : AllUnder (sheet_at l.target l.project) l.rest;
  same : machine.is_recursive l.code 6 (pending (sheet_at l.target l.project) (levels_at l.fn.which l.threads)) ≡ machine.is_recursive l.code (6 - l.looked_at) (beneath (sheet_at l.target l.project) l.rest);
}
