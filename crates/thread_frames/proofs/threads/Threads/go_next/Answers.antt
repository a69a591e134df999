use Rattle.std.proofs.Common.{refl, arith}
use Rattle.thread_frames.specs.Levels.{on_top, at_next}
use Rattle.thread_frames.proofs.Tops.{kept_top, view_top, read_in, read_empty}
use Rattle.thread_frames.proofs.threads.Threads.go_next.Goals as goal

pub top_mut-top-requires-clause-there : goal.top_mut-top-requires-clause-there
top_mut-top-requires-clause-there c = read_in c.self.inside.pool c.args.which c.self.inside.table _ c.stack-stack.ensures c.self.invariant.stand

pub invariant_of-self : goal.invariant_of-self
invariant_of-self c = kept_top c.self.inside.pool _ c.args.which c.self.inside.table _ _ c.stack-stack.ensures c.self.invariant (omega arith)

pub returns-then-depth-gt0 : goal.returns-then-depth-gt0
returns-then-depth-gt0 c =
    view_top c.self.inside.pool (at_next c.args.next) _ _ c.args.which c.self.inside.table _ _ c.stack-stack.ensures c.self.view_is c.self.invariant.stand (omega arith) c.top_mut-top.ensures.value c.go_next.ensures

pub returns-else-depth-gt0 : goal.returns-else-depth-gt0
returns-else-depth-gt0 c = read_empty c.self.inside.pool (on_top (at_next c.args.next)) refl c.args.which c.self.inside.table _ _ c.stack-stack.ensures c.self.view_is (omega arith)
