use Rattle.std.proofs.Common.{sym, ap, ◌∙◌, refl, arith}
use Rattle.machine_spec.specs.declared.threads.Which.TheVariants.{Slot}
use Rattle.shared_stacks.proofs.Chains.{Moves-none}
use Rattle.thread_frames.specs.Entries.{entry_with, seen}
use Rattle.thread_frames.specs.Stopping.{emptied}
use Rattle.thread_frames.proofs.Kept.{is_in, kept_moved}
use Rattle.thread_frames.proofs.Views.{view_moved}
use Rattle.thread_frames.proofs.Removing.{emptied_true, emptied_false}
use Rattle.thread_frames.proofs.threads.Threads.empty_done.Goals as goal

pub clear-requires : goal.clear-requires
clear-requires c = is_in c.self.inside.pool (Slot c.args.slot) _ c.self.inside.table c.self.invariant.stand (sym c.in-Some.ensures.entry)

pub invariant_of-self-then-is_done : goal.invariant_of-self-then-is_done
invariant_of-self-then-is_done c =
    kept_moved c.self.inside.pool _ _ (Slot c.args.slot) c.in-Some.entry.now _ c.self.inside.table c.self.invariant (sym c.in-Some.ensures.entry) c.clear.ensures.moved (omega (arith, c.clear.ensures.moved.count, c.clear.ensures.depth, c.self.invariant.stand.few)) refl

pub invariant_of-self-else-is_done : goal.invariant_of-self-else-is_done
invariant_of-self-else-is_done c =
    kept_moved c.self.inside.pool _ _ (Slot c.args.slot) c.in-Some.entry.now _ c.self.inside.table c.self.invariant (sym c.in-Some.ensures.entry) (Moves-none c.self.inside.pool _) c.self.invariant.stand.few refl

pub returns-then-is_done : goal.returns-then-is_done
returns-then-is_done c =
    view_moved c.self.inside.pool _ emptied (Slot c.args.slot) c.in-Some.entry.now _ c.self.inside.table _ c.self.view_is c.self.invariant.stand (sym c.in-Some.ensures.entry) c.clear.ensures.moved
    (ap (entry_with c.in-Some.entry.now) c.clear.ensures.values ∙ sym (emptied_true (seen c.self.inside.pool c.in-Some.entry.now) (sym c.is_done.ensures ∙ c.if-is_done.true)))

pub returns-else-is_done : goal.returns-else-is_done
returns-else-is_done c =
    view_moved c.self.inside.pool _ emptied (Slot c.args.slot) c.in-Some.entry.now _ c.self.inside.table _ c.self.view_is c.self.invariant.stand (sym c.in-Some.ensures.entry) (Moves-none c.self.inside.pool _)
    (sym (emptied_false (seen c.self.inside.pool c.in-Some.entry.now) (sym c.is_done.ensures ∙ c.if-is_done.false)))
