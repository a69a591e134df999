use Rattle.instance_index.proofs.Walk.{behind}
use Rattle.thread_frames.proofs.Ending.{Walks}
use Rattle.thread_frames.proofs.threads.Threads.stop_of.Given as goal

abbrev pub invariant-loop-next : goal.invariant-loop-next
invariant-loop-next l = Walks l.except l.of l.next l.fn.self l.self

abbrev pub decreases-loop-next : goal.decreases-loop-next
decreases-loop-next l = behind l.next
