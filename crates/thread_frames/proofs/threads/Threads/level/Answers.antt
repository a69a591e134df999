use Rattle.std.proofs.Common.{◌∙◌, ap, slice_get, List}
use Rattle.thread_frames.specs.Levels.{Level}
use Rattle.thread_frames.proofs.Tops.{read_in, read_levels}
use Rattle.thread_frames.proofs.threads.Threads.level.Goals as goal

pub get-requires : goal.get-requires
get-requires c = read_in c.self.inside.pool c.args.which c.self.inside.table _ c.stack.ensures c.self.invariant.stand

pub returns : goal.returns
returns c = c.get.ensures ∙ ap (λ (ls : List Level). slice_get ls c.args.from_top) (read_levels c.self.inside.pool c.args.which c.self.inside.table _ _ c.stack.ensures c.self.view_is)
