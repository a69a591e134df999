use Rattle.std.proofs.Common.{◌∙◌}
use Rattle.thread_frames.proofs.Keys.{slot_by_entries}
use Rattle.thread_frames.proofs.threads.Threads.slot_of.Goals as goal

pub returns-in-Some : goal.returns-in-Some
returns-in-Some c = c.in-Some.ensures ∙ slot_by_entries c.self.inside.pool c.args.serial c.self.inside.table _ c.self.view_is

pub returns-in-None : goal.returns-in-None
returns-in-None c = c.in-None.ensures ∙ slot_by_entries c.self.inside.pool c.args.serial c.self.inside.table _ c.self.view_is
