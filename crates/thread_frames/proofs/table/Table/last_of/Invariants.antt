use Rattle.std.proofs.Common.{◌≡◌, ◌≤◌, map}
use Rattle.instance_index.specs.Slots.{last_below}
use Rattle.thread_frames.proofs.table.Table.last_of.Given as goal

abbrev pub invariant-loop-rest : goal.invariant-loop-rest
invariant-loop-rest l = record {
  within : l.rest ≤ l.below;
  same : last_below l.of (map (λ e. e.thread.of) l.self.list) l.rest ≡ last_below l.of (map (λ e. e.thread.of) l.self.list) l.below;
}

abbrev pub decreases-loop-rest : goal.decreases-loop-rest
decreases-loop-rest l = l.rest
