use Rattle.std.proofs.Common.{◌∷◌, ◌++◌, [], false, ap, sym, ◌∙◌, arith}
use Rattle.machine_spec.specs.declared.threads.Which.TheVariants.{Slot}
use Rattle.machine_spec.specs.Outcome.{Goes}
use Rattle.machine_spec.specs.Places.{on_place}
use Rattle.thread_frames.specs.Levels.{Level, new_level}
use Rattle.thread_frames.specs.Threads.{Bare, on_levels, with_levels}
use Rattle.thread_frames.proofs.Views.{open_is}
use Rattle.thread_frames.proofs.Opening.{open-more, put_behind}
use Rattle.thread_frames.proofs.Restarts.{is_full, has_room}
use Rattle.thread_frames.proofs.threads.Threads.append.Goals as goal

pub returns-then-used-ge-MOST_LEVELS-clause-stop : goal.returns-then-used-ge-MOST_LEVELS-clause-stop
returns-then-used-ge-MOST_LEVELS-clause-stop c = is_full _ _ (omega (arith, open_is c.self.inside.pool c.self.inside.table _ c.self.view_is c.self.invariant.stand))

pub put-requires : goal.put-requires
put-requires c = omega (arith, open_is c.self.inside.pool c.self.inside.table _ c.self.view_is c.self.invariant.stand, open-more (with_levels c.new.result []) c.args.self.now c.add.new.self c.in-Ok.ensures.ok)

pub returns-clause-ok : goal.returns-clause-ok
returns-clause-ok c =
    has_room _ _ (omega (arith, open_is c.self.inside.pool c.self.inside.table _ c.self.view_is c.self.invariant.stand))
    ∙ ap Goes (
    sym (
    c.put.ensures
    ∙ ap (λ (l : Level). on_place (on_levels (λ ls. l ∷ ls)) (Slot c.len-slot.result) c.add.new.self) c.new-2.ensures
    ∙ ap (λ n. on_place (on_levels (λ ls. new_level c.args.first false ∷ ls)) (Slot n) c.add.new.self) c.len-slot.ensures
    ∙ put_behind (on_levels (λ ls. new_level c.args.first false ∷ ls)) (with_levels c.new.result []) c.args.self.now c.add.new.self c.in-Ok.ensures.ok
    ∙ ap (λ (t : Bare). record { list = c.args.self.now.list ++ with_levels t (new_level c.args.first false ∷ []) ∷ []; detached = c.args.self.now.detached }) c.new.ensures
    )
    )
