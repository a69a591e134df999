use Rattle.std.proofs.Common.{Some, ap, ◌∙◌}
use Rattle.std.specs.Option.{option_map}
use Rattle.thread_frames.specs.Entries.{Entry}
use Rattle.thread_frames.proofs.Waits.{status_by_entries}
use Rattle.thread_frames.proofs.threads.Threads.status_of.Goals as goal

pub returns-in-Some : goal.returns-in-Some
returns-in-Some c =
    ap Some c.status.ensures ∙ ap (option_map (λ (e : Entry). e.thread.status)) c.in-Some.ensures ∙ status_by_entries c.self.inside.pool c.args.serial c.self.inside.table _ c.self.view_is

pub returns-in-None : goal.returns-in-None
returns-in-None c =
    ap (option_map (λ (e : Entry). e.thread.status)) c.in-None.ensures ∙ status_by_entries c.self.inside.pool c.args.serial c.self.inside.table _ c.self.view_is
