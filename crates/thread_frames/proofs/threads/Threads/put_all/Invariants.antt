use Rattle.std.proofs.Common.{◌≡◌, ◌+◌, ◌≤◌, length}
use Rattle.std.specs.Vec.Iter.{into_iter_items}
use Rattle.machine_spec.specs.Outcome.{most_levels}
use Rattle.machine_spec.specs.Places.{on_place}
use Rattle.machine_spec.specs.Starting.{open_levels}
use Rattle.thread_frames.specs.Rebuilding.{on_all}
use Rattle.thread_frames.specs.Threads.{frames, on_levels}
use Rattle.thread_frames.proofs.threads.Threads.put_all.Given as goal

-- the levels that are left are put on those that stand there now
abbrev pub invariant-loop-level : goal.invariant-loop-level
invariant-loop-level l = record {
  room : open_levels frames l.self + length (into_iter_items l.level-iterator) ≤ most_levels;
  same : on_place (on_levels (on_all (into_iter_items l.level-iterator))) l.fn.which l.self ≡ on_place (on_levels (on_all l.fn.bottom_first.items)) l.fn.which l.initial.self;
}
