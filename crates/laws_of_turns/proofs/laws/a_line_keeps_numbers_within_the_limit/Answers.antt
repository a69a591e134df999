use Rattle.machine_spec.specs.Line.{after}
use Rattle.laws_of_threads.proofs.RowFits.{goes_is}
use Rattle.laws_of_turns.proofs.Threads.{WorldRuns}
use Rattle.laws_of_turns.proofs.Frames.{line_runs}
use Rattle.laws_of_turns.proofs.Legal.{legal_runs, runs_within}
use Rattle.laws_of_turns.proofs.laws.a_line_keeps_numbers_within_the_limit.Goals as goal

pub returns : goal.returns
returns c p l w v good legal h e = runs_within v (goes_is (after p l w) WorldRuns v e (line_runs p good l w (legal_runs p good w legal h)))
