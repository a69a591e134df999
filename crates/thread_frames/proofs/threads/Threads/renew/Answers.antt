use Rattle.std.proofs.Common.{sym, ap, ap₂, ◌∙◌, arith}
use Rattle.machine_spec.specs.declared.threads.Which.TheVariants.{Slot}
use Rattle.thread_frames.specs.Threads.{with_levels, new_bare}
use Rattle.thread_frames.specs.Restarting.{renewed}
use Rattle.thread_frames.proofs.Kept.{is_in, kept_moved, bare_key, key}
use Rattle.thread_frames.proofs.Views.{view_moved}
use Rattle.thread_frames.proofs.threads.Threads.renew.Goals as goal

pub clear-requires : goal.clear-requires
clear-requires c = is_in c.self.inside.pool (Slot c.args.slot) _ c.self.inside.table c.self.invariant.stand (sym c.in-Some.ensures.entry)

pub invariant_of-self-2 : goal.invariant_of-self-2
invariant_of-self-2 c =
    kept_moved c.self.inside.pool _ _ (Slot c.args.slot) c.in-Some.entry.now _ c.self.inside.table c.self.invariant (sym c.in-Some.ensures.entry) c.clear.ensures.moved (omega (arith, c.clear.ensures.moved.count, c.clear.ensures.depth, c.self.invariant.stand.few))
    (ap bare_key c.new-entry.ensures ∙ ap₂ key c.of.ensures c.hat.ensures)

pub returns : goal.returns
returns c =
    view_moved c.self.inside.pool _ (renewed c.args.serial c.args.target) (Slot c.args.slot) c.in-Some.entry.now _ c.self.inside.table _ c.self.view_is c.self.invariant.stand (sym c.in-Some.ensures.entry) c.clear.ensures.moved
    (ap₂ with_levels (c.new-entry.ensures ∙ ap₂ (λ of hat. new_bare c.args.serial of c.args.target hat) c.of.ensures c.hat.ensures) c.clear.ensures.values)
