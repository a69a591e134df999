use Rattle.std.proofs.Common.{◌≡◌, length}
use Rattle.thread_frames.specs.Stopping.{emptied}
use Rattle.thread_frames.proofs.Walking.{rest}
use Rattle.thread_frames.proofs.threads.Threads.empty_all_done.Given as goal

abbrev pub invariant-loop-slot : goal.invariant-loop-slot
invariant-loop-slot l = record {
  same : rest (λ k. emptied) l.slot l.self ≡ rest (λ k. emptied) 0 l.initial.self;
  length : length l.self.list ≡ l.slot-end;
}
