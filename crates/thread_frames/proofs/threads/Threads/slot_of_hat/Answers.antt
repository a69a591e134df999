use Rattle.std.proofs.Common.{◌∙◌}
use Rattle.thread_frames.proofs.Keys.{hat_by_keys, hat_by_entries}
use Rattle.thread_frames.proofs.threads.Threads.slot_of_hat.Goals as goal

pub returns-then-is_fresh : goal.returns-then-is_fresh
returns-then-is_fresh c = c.slot.ensures _ c.self.invariant.indexed.hats ∙ hat_by_keys c.self.inside.pool c.args.of c.args.hat c.self.inside.table _ c.self.view_is

pub returns-in-Some : goal.returns-in-Some
returns-in-Some c = c.in-Some.ensures ∙ hat_by_entries c.self.inside.pool c.args.of c.args.hat c.self.inside.table _ c.self.view_is

pub returns-in-None : goal.returns-in-None
returns-in-None c = c.in-None.ensures ∙ hat_by_entries c.self.inside.pool c.args.of c.args.hat c.self.inside.table _ c.self.view_is
