use Rattle.std.proofs.Common.{◌∙◌}
use Rattle.thread_frames.proofs.Tops.{read_in, read_levels}
use Rattle.thread_frames.proofs.threads.Threads.levels_at.Goals as goal

pub new-requires : goal.new-requires
new-requires c = read_in c.self.inside.pool c.args.which c.self.inside.table _ c.stack.ensures c.self.invariant.stand

pub returns : goal.returns
returns c = c.new.ensures ∙ read_levels c.self.inside.pool c.args.which c.self.inside.table _ _ c.stack.ensures c.self.view_is
