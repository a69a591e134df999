use Rattle.std.proofs.Common.{◌≡◌, ◌++◌, map, None}
use Rattle.std.specs.Vec.Iter.{into_iter_items}
use Rattle.thread_frames.specs.Rebuilding.{thread_of}
use Rattle.thread_frames.proofs.threads.Threads.rebuild.Given as goal

-- the threads that are listed, and then those of the parts that are left, are those of all parts
abbrev pub invariant-loop-part : goal.invariant-loop-part
invariant-loop-part l = record {
  list : l.rebuilt.list ++ map thread_of (into_iter_items l.part-iterator) ≡ map thread_of l.fn.threads.items;
  detached : l.rebuilt.detached ≡ None;
}
