use Rattle.std.proofs.Common.{◌∷◌, sym, refl, arith, List}
use Rattle.thread_frames.specs.Levels.{Level}
use Rattle.thread_frames.proofs.Kept.{is_in, depth_few, kept_moved}
use Rattle.thread_frames.proofs.Views.{open_is}
use Rattle.thread_frames.proofs.Tops.{view_levels}
use Rattle.thread_frames.proofs.threads.Threads.put.Goals as goal

pub push-requires-clause-there : goal.push-requires-clause-there
push-requires-clause-there c = is_in c.self.inside.pool c.args.which _ c.self.inside.table c.self.invariant.stand (sym c.in-Some.ensures.entry)

pub push-requires-clause-room : goal.push-requires-clause-room
push-requires-clause-room c = omega (arith, open_is c.self.inside.pool c.self.inside.table _ c.self.view_is c.self.invariant.stand, c.requires, c.self.invariant.stand.room)

pub push-requires-clause-countable : goal.push-requires-clause-countable
push-requires-clause-countable c = omega (arith, depth_few c.self.inside.pool c.args.which _ c.self.inside.table c.self.invariant.stand (sym c.in-Some.ensures.entry), c.self.invariant.stand.few)

pub invariant_of-self-2 : goal.invariant_of-self-2
invariant_of-self-2 c =
    kept_moved c.self.inside.pool _ _ c.args.which _ _ c.self.inside.table c.self.invariant (sym c.in-Some.ensures.entry) c.push.ensures.moved
    (omega (arith, c.push.ensures.moved.count, c.push.ensures.depth, open_is c.self.inside.pool c.self.inside.table _ c.self.view_is c.self.invariant.stand, c.requires)) refl

pub returns : goal.returns
returns c =
    view_levels c.self.inside.pool _ (λ (ls : List Level). c.args.level ∷ ls) c.args.which _ _ c.self.inside.table _ c.self.view_is c.self.invariant.stand (sym c.in-Some.ensures.entry) c.push.ensures.moved c.push.ensures.values
