use Rattle.std.proofs.Common.{◌≡◌, ◌++◌, List, map}
use Rattle.std.specs.List.{All}
use Rattle.std.specs.Vec.Iter.{into_iter_items}
use Rattle.saved_levels.specs.Waits.{TellsOf}
use Rattle.saved_parts.specs.Telling.{thread_of}
use Rattle.saved_spec.specs.Kept.{SavedThread}
use Rattle.saved_spec.specs.RunShapes.{Told}
use Rattle.run_save.specs.Parts.{AreParts, IsReady}
use Rattle.run_save.proofs.threads.parts_of.Given as goal

-- the threads so far have these parts, and the others are ready
abbrev pub invariant-loop-thread : goal.invariant-loop-thread
invariant-loop-thread l = record {
  before : List SavedThread;
  split : before ++ map thread_of (into_iter_items l.thread-iterator) ≡ map thread_of l.fn.threads;
  parts : (t : Told) → t.run.targets ≡ l.targets → TellsOf l.waiting t.run.devices → AreParts l.project t before l.parts.items;
  ready : All (λ x. IsReady x l.targets) (map thread_of (into_iter_items l.thread-iterator));
}
