use Rattle.std.proofs.Common.{ℕ, length, ap, ap₂, ◌∙◌}
use Rattle.machine_spec.specs.Places.{Places}
use Rattle.instance_index.specs.Slots.{last_below}
use Rattle.thread_frames.specs.Indexing.{keys_of, instances_of}
use Rattle.thread_frames.specs.Threads.{Thread}
use Rattle.thread_frames.proofs.Ending.{owns_keys, owns_seen, count_keys, count_seen}
use Rattle.thread_frames.proofs.threads.Threads.last_of.Goals as goal

pub returns-then-is_fresh : goal.returns-then-is_fresh
returns-then-is_fresh c =
    let same = ap (λ (ts : Places Thread). ts.list) c.self.view_is in
    c.last.ensures (instances_of (keys_of c.self.inside.table.list)) c.self.invariant.indexed.instances
    ∙ ap (λ (o : ℕ). last_below o (instances_of (keys_of c.self.inside.table.list)) (length (instances_of (keys_of c.self.inside.table.list)))) c.of.view_is
    ∙ ap₂ (last_below c.args.of) (owns_keys c.self.inside.pool c.self.inside.table.list _ same) (count_keys c.self.inside.table.list ∙ count_seen c.self.inside.pool c.self.inside.table.list _ same)

pub returns-else-is_fresh : goal.returns-else-is_fresh
returns-else-is_fresh c =
    let same = ap (λ (ts : Places Thread). ts.list) c.self.view_is in
    c.last_of.ensures ∙ ap₂ (last_below c.args.of) (owns_seen c.self.inside.pool c.self.inside.table.list _ same) (ap length c.list.ensures ∙ count_seen c.self.inside.pool c.self.inside.table.list _ same)
