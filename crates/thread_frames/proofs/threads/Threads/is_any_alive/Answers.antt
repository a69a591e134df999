use Rattle.std.proofs.Common.{sym, ◌∙◌}
use Rattle.thread_frames.proofs.Alive.{none_alive, first_alive}
use Rattle.thread_frames.proofs.Keys.{alive_by_entries}
use Rattle.thread_frames.proofs.threads.Threads.is_any_alive.Goals as goal

pub returns-in_default : goal.returns-in_default
returns-in_default c = sym (none_alive c.args.of c.args.hat c.args.self.now.list (sym c.in_default.ensures))

pub returns-in-Some-thread : goal.returns-in-Some-thread
returns-in-Some-thread c =
    sym (first_alive c.args.of c.args.hat c.args.self.now.list c.in-Some.slot _ (sym c.in-Some.ensures) c.in-Some-thread.ensures (sym c.is_done.ensures ∙ c.if-not-is_done.true))

pub returns-in_default-thread : goal.returns-in_default-thread
returns-in_default-thread c = c.is_any_alive.ensures ∙ alive_by_entries c.self.inside.pool c.args.of c.args.hat c.self.inside.table _ c.self.view_is
