use Rattle.std.proofs.Common.{sym, ap, ◌∙◌, refl, arith}
use Rattle.std.specs.Prelude.{option_map, slice_get}
use Rattle.shared_stacks.proofs.Chains.{IsIn-moved}
use Rattle.thread_frames.specs.Levels.{mark_of, without_top}
use Rattle.thread_frames.specs.Threads.{levels_of}
use Rattle.thread_frames.proofs.Kept.{is_in, kept_moved}
use Rattle.thread_frames.proofs.Views.{there}
use Rattle.thread_frames.proofs.Tops.{view_levels}
use Rattle.thread_frames.proofs.threads.Threads.uncover.Goals as goal

pub give_up-requires : goal.give_up-requires
give_up-requires c = is_in c.self.inside.pool c.args.which _ c.self.inside.table c.self.invariant.stand (sym c.in-Some.ensures.entry)

pub top_mark-requires : goal.top_mark-requires
top_mark-requires c = IsIn-moved c.self.inside.pool c.give_up.new.pool _ _ c.give_up.ensures.moved (is_in c.self.inside.pool c.args.which _ c.self.inside.table c.self.invariant.stand (sym c.in-Some.ensures.entry))

pub invariant_of-self-2 : goal.invariant_of-self-2
invariant_of-self-2 c =
    kept_moved c.self.inside.pool _ _ c.args.which _ _ c.self.inside.table c.self.invariant (sym c.in-Some.ensures.entry) c.give_up.ensures.moved
    (omega (arith, c.give_up.ensures.moved.count, c.give_up.ensures.depth, c.self.invariant.stand.few)) refl

pub returns-clause-popped : goal.returns-clause-popped
returns-clause-popped c =
    view_levels c.self.inside.pool _ without_top c.args.which _ _ c.self.inside.table _ c.self.view_is c.self.invariant.stand (sym c.in-Some.ensures.entry) c.give_up.ensures.moved c.give_up.ensures.values

pub returns-clause-next : goal.returns-clause-next
returns-clause-next c =
    c.top_mark.ensures
    ∙ ap (λ ls. option_map mark_of (slice_get ls 0)) (c.give_up.ensures.values ∙ ap (λ o. without_top (levels_of o)) (sym (there c.self.inside.pool c.args.which c.in-Some.entry.now c.self.inside.table _ c.self.view_is (sym c.in-Some.ensures.entry))))
