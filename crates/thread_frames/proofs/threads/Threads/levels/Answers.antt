use Rattle.std.proofs.Common.{sym, ◌∙◌, arith}
use Rattle.thread_frames.proofs.Views.{open_is}
use Rattle.thread_frames.proofs.threads.Threads.levels.Goals as goal

pub returns-clause-open : goal.returns-clause-open
returns-clause-open c = c.used.ensures ∙ sym (open_is c.self.inside.pool c.self.inside.table _ c.self.view_is c.self.invariant.stand)

pub returns-clause-few : goal.returns-clause-few
returns-clause-few c = omega (arith, open_is c.self.inside.pool c.self.inside.table _ c.self.view_is c.self.invariant.stand, c.self.invariant.stand.few)
