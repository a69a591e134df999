use Rattle.std.proofs.Common.{sym, ◌∙◌}
use Rattle.thread_frames.proofs.Ending.{stopped-false}
use Rattle.thread_frames.proofs.threads.Threads.stop_at.Goals as goal

pub returns-else-is_stopped : goal.returns-else-is_stopped
returns-else-is_stopped c = stopped-false _ _ _ _ (sym c.is_stopped.ensures ∙ c.if-is_stopped.false)
