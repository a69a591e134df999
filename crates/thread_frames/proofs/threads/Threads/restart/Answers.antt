use Rattle.std.proofs.Common.{◌∷◌, sym, ap, ◌∙◌, arith}
use Rattle.machine_spec.specs.declared.threads.Which.TheVariants.{Slot}
use Rattle.machine_spec.specs.Places.{on_place}
use Rattle.shared_stacks.proofs.Chains.{length-values}
use Rattle.thread_frames.specs.Entries.{seen}
use Rattle.thread_frames.specs.Levels.{Level}
use Rattle.thread_frames.specs.Threads.{on_levels}
use Rattle.thread_frames.proofs.Kept.{is_in, depth_few}
use Rattle.thread_frames.proofs.Views.{open_is, there}
use Rattle.thread_frames.proofs.Restarts.{restart_full, renewed_room, restart_goes}
use Rattle.thread_frames.proofs.threads.Threads.restart.Goals as goal

pub overflow_sub-others : goal.overflow_sub-others
overflow_sub-others c = omega (arith, c.depth.ensures, c.used.ensures, depth_few c.self.inside.pool (Slot c.args.slot) c.in-Some.entry.now c.self.inside.table c.self.invariant.stand (sym c.in-Some.ensures))

pub returns-then-others-ge-MOST_LEVELS-clause-stop : goal.returns-then-others-ge-MOST_LEVELS-clause-stop
returns-then-others-ge-MOST_LEVELS-clause-stop c =
    restart_full c.args.slot c.args.serial c.args.target c.args.first (seen c.self.inside.pool c.in-Some.entry.now) c.args.self.now (there c.self.inside.pool (Slot c.args.slot) c.in-Some.entry.now c.self.inside.table _ c.self.view_is (sym c.in-Some.ensures))
    (omega (arith, open_is c.self.inside.pool c.self.inside.table _ c.self.view_is c.self.invariant.stand, length-values c.self.inside.pool c.in-Some.entry.now.stack (is_in c.self.inside.pool (Slot c.args.slot) c.in-Some.entry.now c.self.inside.table c.self.invariant.stand (sym c.in-Some.ensures)), c.depth.ensures, c.used.ensures))

pub put-requires : goal.put-requires
put-requires c =
    omega (
      arith,
      renewed_room c.args.slot c.args.serial c.args.target c.args.first (seen c.self.inside.pool c.in-Some.entry.now) c.args.self.now (there c.self.inside.pool (Slot c.args.slot) c.in-Some.entry.now c.self.inside.table _ c.self.view_is (sym c.in-Some.ensures)) _ c.renew.ensures,
      open_is c.self.inside.pool c.self.inside.table _ c.self.view_is c.self.invariant.stand,
      length-values c.self.inside.pool c.in-Some.entry.now.stack (is_in c.self.inside.pool (Slot c.args.slot) c.in-Some.entry.now c.self.inside.table c.self.invariant.stand (sym c.in-Some.ensures)),
      c.depth.ensures,
      c.used.ensures,
    )

pub returns-clause-ok : goal.returns-clause-ok
returns-clause-ok c =
    restart_goes c.args.slot c.args.serial c.args.target c.args.first (seen c.self.inside.pool c.in-Some.entry.now) c.args.self.now (there c.self.inside.pool (Slot c.args.slot) c.in-Some.entry.now c.self.inside.table _ c.self.view_is (sym c.in-Some.ensures))
    _ _ c.renew.ensures (omega (arith, open_is c.self.inside.pool c.self.inside.table _ c.self.view_is c.self.invariant.stand, length-values c.self.inside.pool c.in-Some.entry.now.stack (is_in c.self.inside.pool (Slot c.args.slot) c.in-Some.entry.now c.self.inside.table c.self.invariant.stand (sym c.in-Some.ensures)), c.depth.ensures, c.used.ensures))
    (c.put.ensures ∙ ap (λ (l : Level). on_place (on_levels (λ ls. l ∷ ls)) (Slot c.args.slot) c.renew.new.self) c.new.ensures)
