use Rattle.std.proofs.Common.{◌≡◌, drop}
use Rattle.machine_spec.specs.Threads.{among, wait_for}
use Rattle.thread_frames.specs.Threads.{listed}
use Rattle.thread_frames.proofs.Waits.{wait_by}
use Rattle.thread_frames.proofs.threads.Threads.wait_for.Given as goal

abbrev pub invariant-loop-serial : goal.invariant-loop-serial
invariant-loop-serial l = wait_by l.is_listed (among (listed l.self) (drop l.serial-index l.serials)) ≡ wait_for (among (listed l.self) l.serials)
