use Rattle.std.proofs.Common.{take}
use Rattle.thread_frames.specs.Indexing.{AreFirst, keys_of}
use Rattle.thread_frames.proofs.slot_index.SlotIndex.renew.Given as goal

abbrev pub invariant-loop-slot : goal.invariant-loop-slot
invariant-loop-slot l = AreFirst l.self (keys_of (take l.slot l.threads))
