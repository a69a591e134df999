use Rattle.std.proofs.Common.{sym, ap, ◌∙◌, refl, arith}
use Rattle.std.specs.Prelude.{nat_lt}
use Rattle.thread_frames.specs.Levels.{without_top}
use Rattle.thread_frames.proofs.Kept.{is_in, kept_moved}
use Rattle.thread_frames.proofs.Tops.{view_levels, entry_depth, left_over}
use Rattle.thread_frames.proofs.threads.Threads.pop.Goals as goal

pub give_up-requires : goal.give_up-requires
give_up-requires c = is_in c.self.inside.pool c.args.which _ c.self.inside.table c.self.invariant.stand (sym c.in-Some.ensures.entry)

pub invariant_of-self-2 : goal.invariant_of-self-2
invariant_of-self-2 c =
    kept_moved c.self.inside.pool _ _ c.args.which _ _ c.self.inside.table c.self.invariant (sym c.in-Some.ensures.entry) c.give_up.ensures.moved
    (omega (arith, c.give_up.ensures.moved.count, c.give_up.ensures.depth, c.self.invariant.stand.few)) refl

pub returns-clause-popped : goal.returns-clause-popped
returns-clause-popped c =
    view_levels c.self.inside.pool _ without_top c.args.which _ _ c.self.inside.table _ c.self.view_is c.self.invariant.stand (sym c.in-Some.ensures.entry) c.give_up.ensures.moved c.give_up.ensures.values

pub returns-clause-left : goal.returns-clause-left
returns-clause-left c =
    ap (nat_lt 0) (c.depth.ensures ∙ c.give_up.ensures.depth) ∙ left_over _
    ∙ sym (ap (nat_lt 1) (entry_depth c.self.inside.pool c.args.which _ c.self.inside.table _ c.self.view_is c.self.invariant.stand (sym c.in-Some.ensures.entry)))
