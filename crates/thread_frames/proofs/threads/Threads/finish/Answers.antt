use Rattle.std.proofs.Common.{sym, ap, ap₂, arith}
use Rattle.thread_frames.specs.Threads.{with_levels, finish}
use Rattle.thread_frames.proofs.Kept.{is_in, kept_moved, bare_key}
use Rattle.thread_frames.proofs.Views.{view_moved}
use Rattle.thread_frames.proofs.threads.Threads.finish.Goals as goal

pub clear-requires : goal.clear-requires
clear-requires c = is_in c.self.inside.pool c.args.which _ c.self.inside.table c.self.invariant.stand (sym c.in-Some.ensures.entry)

pub invariant_of-self-2 : goal.invariant_of-self-2
invariant_of-self-2 c =
    kept_moved c.self.inside.pool _ _ c.args.which _ _ c.self.inside.table c.self.invariant (sym c.in-Some.ensures.entry) c.clear.ensures.moved (omega (arith, c.clear.ensures.moved.count, c.clear.ensures.depth, c.self.invariant.stand.few))
    (ap bare_key c.with_status-entry.ensures)

pub returns : goal.returns
returns c =
    view_moved c.self.inside.pool _ finish c.args.which _ _ c.self.inside.table _ c.self.view_is c.self.invariant.stand (sym c.in-Some.ensures.entry) c.clear.ensures.moved
    (ap₂ with_levels c.with_status-entry.ensures c.clear.ensures.values)
