use Rattle.std.proofs.Common.{sym, ap}
use Rattle.shared_stacks.specs.Chains.{values}
use Rattle.shared_stacks.proofs.Chains.{Moves-none}
use Rattle.thread_frames.specs.Threads.{Bare, with_levels, with_status}
use Rattle.thread_frames.proofs.Kept.{kept_moved, bare_key}
use Rattle.thread_frames.proofs.Views.{view_moved}
use Rattle.thread_frames.proofs.threads.Threads.set_status.Goals as goal

pub invariant_of-self-2 : goal.invariant_of-self-2
invariant_of-self-2 c =
    kept_moved c.self.inside.pool _ _ c.args.which _ _ c.self.inside.table c.self.invariant (sym c.in-Some.ensures.entry) (Moves-none c.self.inside.pool _) c.self.invariant.stand.few (ap bare_key c.with_status-entry.ensures)

pub returns : goal.returns
returns c =
    view_moved c.self.inside.pool _ (with_status c.args.status) c.args.which _ _ c.self.inside.table _ c.self.view_is c.self.invariant.stand (sym c.in-Some.ensures.entry) (Moves-none c.self.inside.pool _)
    (ap (λ (t : Bare). with_levels t (values c.self.inside.pool c.in-Some.entry.now.stack)) c.with_status-entry.ensures)
