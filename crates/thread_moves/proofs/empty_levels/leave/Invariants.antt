-- What is left to do settles to the same.
use Rattle.std.proofs.Common.{◌≡◌, ◌≤◌, length}
use Rattle.machine_spec.specs.Pending.{settle}
use Rattle.project_check.specs.Loaded.{sheet_at}
use Rattle.thread_frames.specs.Levels.{warp_flag}
use Rattle.thread_frames.specs.Reading.{pending}
use Rattle.thread_moves.specs.Moves.{OnlyLevels, levels_at}
use Rattle.thread_moves.specs.Standing.{IsCovered, emptied}
use Rattle.thread_moves.proofs.empty_levels.leave.Given as goal

abbrev pub invariant-loop-is_loop : goal.invariant-loop-is_loop
invariant-loop-is_loop l = record {
  covered : IsCovered (sheet_at l.target l.project) (emptied (levels_at l.which l.threads));
  same : settle (pending (sheet_at l.target l.project) (emptied (levels_at l.which l.threads))) (warp_flag (emptied (levels_at l.which l.threads)))
      ≡ settle (pending (sheet_at l.target l.project) (emptied (levels_at l.which l.fn.threads))) (warp_flag (emptied (levels_at l.which l.fn.threads)));
  fewer : length (levels_at l.which l.threads) ≤ length (levels_at l.which l.fn.threads);
  only : OnlyLevels l.which l.fn.threads l.threads;
}

abbrev pub decreases-loop-is_loop : goal.decreases-loop-is_loop
decreases-loop-is_loop l = length (levels_at l.which l.threads)
