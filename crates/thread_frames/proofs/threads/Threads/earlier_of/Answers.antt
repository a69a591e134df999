use Rattle.std.proofs.Common.{ℕ, List, map, slice_get, ap, ◌∙◌, arith}
use Rattle.std.proofs.lemmas.Option.{slice_get_within}
use Rattle.machine_spec.specs.Places.{Places}
use Rattle.instance_index.specs.Slots.{last_below}
use Rattle.thread_frames.specs.Entries.{Entry}
use Rattle.thread_frames.specs.Threads.{Thread}
use Rattle.thread_frames.proofs.Ending.{owns_keys, owns_seen, count_owns}
use Rattle.thread_frames.proofs.threads.Threads.earlier_of.Goals as goal

pub returns-then-is_fresh : goal.returns-then-is_fresh
returns-then-is_fresh c =
    let same = owns_keys c.self.inside.pool c.self.inside.table.list _ (ap (λ (ts : Places Thread). ts.list) c.self.view_is) in
    c.earlier.ensures.last _ c.args.of c.self.invariant.indexed.instances (ap (λ (os : List ℕ). slice_get os c.args.slot) same ∙ c.requires)
    ∙ ap (λ (os : List ℕ). last_below c.args.of os c.args.slot) same

pub last_of-requires : goal.last_of-requires
last_of-requires c =
    let same = owns_seen c.self.inside.pool c.self.inside.table.list _ (ap (λ (ts : Places Thread). ts.list) c.self.view_is) in
    let at = ap (λ (os : List ℕ). slice_get os c.args.slot) same ∙ c.requires in
    omega (arith, slice_get_within (map (λ (e : Entry). e.thread.of) c.self.inside.table.list) c.args.slot c.args.of at, count_owns c.self.inside.table.list)

pub returns-else-is_fresh : goal.returns-else-is_fresh
returns-else-is_fresh c =
    c.last_of.ensures ∙ ap (λ (os : List ℕ). last_below c.args.of os c.args.slot) (owns_seen c.self.inside.pool c.self.inside.table.list _ (ap (λ (ts : Places Thread). ts.list) c.self.view_is))
