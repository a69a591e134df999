use Rattle.std.proofs.Common.{take}
use Rattle.instance_index.specs.Index.{IsIndex}
use Rattle.thread_frames.specs.Indexing.{keys_of, instances_of}
use Rattle.thread_frames.proofs.indexes.renew.Given as goal

abbrev pub invariant-loop-entry : goal.invariant-loop-entry
invariant-loop-entry l = IsIndex l.instances (instances_of (keys_of (take l.entry-index l.threads)))
