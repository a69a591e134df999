use Rattle.std.proofs.Common.{◌∙◌, ap}
use Rattle.thread_frames.specs.Levels.{near_params}
use Rattle.thread_frames.proofs.Tops.{read_in, read_levels}
use Rattle.thread_frames.proofs.threads.Threads.params.Goals as goal

pub params_in-requires : goal.params_in-requires
params_in-requires c = read_in c.self.inside.pool c.args.which c.self.inside.table _ c.stack.ensures c.self.invariant.stand

pub returns : goal.returns
returns c = c.params_in.ensures ∙ ap near_params (read_levels c.self.inside.pool c.args.which c.self.inside.table _ _ c.stack.ensures c.self.view_is)
