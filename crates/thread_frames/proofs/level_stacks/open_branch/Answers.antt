use Rattle.std.proofs.Common.{◌∷◌, ap, ap₂, ◌∙◌, arith}
use Rattle.shared_stacks.proofs.Chains.{Moves-then, IsIn-moved}
use Rattle.thread_frames.specs.Levels.{new_level}
use Rattle.thread_frames.proofs.level_stacks.open_branch.Goals as goal

pub push-requires-clause-there : goal.push-requires-clause-there
push-requires-clause-there c = IsIn-moved _ _ _ _ c.keep-warp.ensures.moved c.requires.there

pub push-requires-clause-room : goal.push-requires-clause-room
push-requires-clause-room c = omega (arith, c.keep-warp.ensures.moved.count, c.keep-warp.ensures.moved.room, c.requires.room)

pub returns-clause-values : goal.returns-clause-values
returns-clause-values c = c.push.ensures.values ∙ ap₂ (λ l ls. l ∷ ls) (c.new.ensures ∙ ap (new_level c.args.first) c.keep-warp.ensures.warp) c.keep-warp.ensures.values

pub returns-clause-moved : goal.returns-clause-moved
returns-clause-moved c = Moves-then _ _ _ _ _ _ c.keep-warp.ensures.moved c.push.ensures.moved
