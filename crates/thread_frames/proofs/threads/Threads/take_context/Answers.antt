use Rattle.std.proofs.Common.{refl, ap, ◌∙◌, arith}
use Rattle.machine_spec.specs.declared.threads.Context.TheVariants.{Fresh}
use Rattle.thread_frames.specs.Levels.{on_top, with_context, top_context}
use Rattle.thread_frames.proofs.Tops.{kept_top, view_top, read_in, read_empty, read_levels, top_context-first}
use Rattle.thread_frames.proofs.threads.Threads.take_context.Goals as goal

pub returns-then-depth-eq0-clause-left : goal.returns-then-depth-eq0-clause-left
returns-then-depth-eq0-clause-left c = read_empty c.self.inside.pool (on_top (with_context Fresh)) refl c.args.which c.self.inside.table _ _ c.stack-stack.ensures c.self.view_is (omega arith)

pub top_mut-top-requires-clause-there : goal.top_mut-top-requires-clause-there
top_mut-top-requires-clause-there c = read_in c.self.inside.pool c.args.which c.self.inside.table _ c.stack-stack.ensures c.self.invariant.stand

pub invariant_of-self : goal.invariant_of-self
invariant_of-self c = kept_top c.self.inside.pool _ c.args.which c.self.inside.table _ _ c.stack-stack.ensures c.self.invariant (omega arith)

pub returns-clause-context : goal.returns-clause-context
returns-clause-context c =
    c.take_context.ensures.context ∙ top_context-first _ _ c.top_mut-top.ensures.value ∙ ap top_context (read_levels c.self.inside.pool c.args.which c.self.inside.table _ _ c.stack-stack.ensures c.self.view_is)

pub returns-clause-left : goal.returns-clause-left
returns-clause-left c =
    view_top c.self.inside.pool (with_context Fresh) _ _ c.args.which c.self.inside.table _ _ c.stack-stack.ensures c.self.view_is c.self.invariant.stand (omega arith) c.top_mut-top.ensures.value c.take_context.ensures.level
