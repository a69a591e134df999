use Rattle.std.proofs.Common.{◌∷◌, ap, ◌∙◌, arith}
use Rattle.shared_stacks.specs.Chains.{values}
use Rattle.shared_stacks.proofs.Chains.{Moves-with_top, values-with_top}
use Rattle.thread_frames.specs.Levels.{without_top}
use Rattle.thread_frames.proofs.Tops.{kept-first}
use Rattle.thread_frames.proofs.level_stacks.keep.Goals as goal

pub returns-clause-values : goal.returns-clause-values
returns-clause-values c =
    values-with_top c.args.pool.now c.args.stack c.keep.new.self c.requires (omega arith)
    ∙ ap (λ l. l ∷ without_top (values c.args.pool.now c.args.stack)) c.keep.ensures
    ∙ kept-first c.args.is_loop c.args.context (values c.args.pool.now c.args.stack) c.top_mut-top.result.now c.top_mut-top.ensures.value

pub returns-clause-moved : goal.returns-clause-moved
returns-clause-moved c = Moves-with_top c.args.pool.now c.args.stack c.keep.new.self c.requires (omega arith)
