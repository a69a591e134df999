use Rattle.std.proofs.Common.{◌∙◌, ap, slice_get, List}
use Rattle.thread_frames.specs.Levels.{Level}
use Rattle.thread_frames.proofs.Tops.{read_in, read_levels}
use Rattle.thread_frames.proofs.threads.Threads.top.Goals as goal

pub top-requires : goal.top-requires
top-requires c = read_in c.self.inside.pool c.args.which c.self.inside.table _ c.stack.ensures c.self.invariant.stand

pub returns : goal.returns
returns c = c.top.ensures ∙ ap (λ (ls : List Level). slice_get ls 0) (read_levels c.self.inside.pool c.args.which c.self.inside.table _ _ c.stack.ensures c.self.view_is)
