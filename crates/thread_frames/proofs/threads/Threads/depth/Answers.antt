use Rattle.std.proofs.Common.{◌∙◌, ap, arith}
use Rattle.shared_stacks.specs.declared.stack.Stack.{Stack}
use Rattle.thread_frames.proofs.Kept.{depth_any}
use Rattle.thread_frames.proofs.Tops.{read_depth}
use Rattle.thread_frames.proofs.threads.Threads.depth.Goals as goal

pub overflow_cast-result : goal.overflow_cast-result
overflow_cast-result c = omega (arith, c.depth.ensures, ap (λ (s : Stack). s.depth) c.stack.ensures, depth_any c.self.inside.pool c.args.which c.self.inside.table c.self.invariant.stand, c.self.invariant.stand.few)

pub returns : goal.returns
returns c = c.depth.ensures ∙ read_depth c.self.inside.pool c.args.which c.self.inside.table _ _ c.stack.ensures c.self.view_is c.self.invariant.stand
