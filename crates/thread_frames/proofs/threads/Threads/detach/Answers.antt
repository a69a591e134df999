use Rattle.std.proofs.Common.{◌∷◌, slice_get, sym, ap, ap₂, ◌∙◌, arith}
use Rattle.machine_spec.specs.declared.threads.Which.TheVariants.{Slot}
use Rattle.machine_spec.specs.Places.{on_place}
use Rattle.thread_frames.specs.Levels.{Level}
use Rattle.thread_frames.specs.Threads.{Bare, on_levels, new_bare}
use Rattle.thread_frames.specs.Restarting.{swapped}
use Rattle.thread_frames.proofs.Alive.{bare_at}
use Rattle.thread_frames.proofs.Views.{open_is}
use Rattle.thread_frames.proofs.Restarts.{detach_full, swapped_room, detach_goes}
use Rattle.thread_frames.proofs.threads.Threads.detach.Goals as goal

pub returns-then-used-ge-MOST_LEVELS-clause-stop : goal.returns-then-used-ge-MOST_LEVELS-clause-stop
returns-then-used-ge-MOST_LEVELS-clause-stop c =
    let old = bare_at (slice_get c.args.self.now.list c.args.slot) c.in-Some.old c.in-Some.ensures in
    detach_full c.args.slot c.args.serial c.args.target c.args.first old.0 c.args.self.now old.1 (omega (arith, open_is c.self.inside.pool c.self.inside.table _ c.self.view_is c.self.invariant.stand, c.used.ensures))

pub put-requires : goal.put-requires
put-requires c =
    let old = bare_at (slice_get c.args.self.now.list c.args.slot) c.in-Some.old c.in-Some.ensures in
    let swap = (c.swap.ensures ∙ ap (λ (b : Bare). swapped c.args.slot b c.drop_detached.new.self) (c.new.ensures ∙ ap₂ (λ of hat. new_bare c.args.serial of c.args.target hat) (c.of.ensures ∙ ap (λ (b : Bare). b.of) (sym old.2)) (c.hat.ensures ∙ ap (λ (b : Bare). b.hat) (sym old.2)))) in
    omega (arith, swapped_room c.args.slot c.args.serial c.args.target c.args.first old.0 c.args.self.now old.1 _ _ c.drop_detached.ensures swap, open_is c.self.inside.pool c.self.inside.table _ c.self.view_is c.self.invariant.stand, c.used.ensures)

pub returns-clause-ok : goal.returns-clause-ok
returns-clause-ok c =
    let old = bare_at (slice_get c.args.self.now.list c.args.slot) c.in-Some.old c.in-Some.ensures in
    let swap = (c.swap.ensures ∙ ap (λ (b : Bare). swapped c.args.slot b c.drop_detached.new.self) (c.new.ensures ∙ ap₂ (λ of hat. new_bare c.args.serial of c.args.target hat) (c.of.ensures ∙ ap (λ (b : Bare). b.of) (sym old.2)) (c.hat.ensures ∙ ap (λ (b : Bare). b.hat) (sym old.2)))) in
    detach_goes c.args.slot c.args.serial c.args.target c.args.first old.0 c.args.self.now old.1 _ _ _ c.drop_detached.ensures swap (omega (arith, open_is c.self.inside.pool c.self.inside.table _ c.self.view_is c.self.invariant.stand, c.used.ensures))
    (c.put.ensures ∙ ap (λ (l : Level). on_place (on_levels (λ ls. l ∷ ls)) (Slot c.args.slot) c.swap.new.self) c.new-2.ensures)
