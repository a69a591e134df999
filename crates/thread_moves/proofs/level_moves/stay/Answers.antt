-- The block of the top level keeps the context.
use Rattle.std.proofs.Common.{◌≡◌, ◌∷◌, true, false, sym, refl, subst}
use Rattle.std.specs.Prelude.{◌&&◌}
use Rattle.opcode_table.specs.Kinds.{kind}
use Rattle.machine_spec.specs.Keeping.{may_wait, top_fits}
use Rattle.machine_spec.specs.Pending.{kept}
use Rattle.thread_frames.specs.Levels.{on_top, with_context, warp_flag}
use Rattle.thread_moves.specs.Moves.{MovesOn, levels_at}
use Rattle.thread_moves.proofs.InPlace.{levels_are, only_on, top_at, moves_on}
use Rattle.thread_moves.proofs.Moves.{told, stay_is, cached}
use Rattle.thread_moves.proofs.level_moves.stay.Goals as goal

pub returns : goal.returns
returns c =
    let th = top_at _ _ _ _ _ c.requires.at in
    subst (MovesOn c.args.project.now c.args.which c.args.target c.args.id (λ s rest warp. record { items = kept s c.args.context ∷ rest; warp = warp; report = c.args.report }) c.args.threads.now c.report_of.new.threads) (sym c.report_of.ensures.same)
    (moves_on _ _ _ _ _ c.requires.at _ _ c.args.report (only_on c.args.which (on_top (with_context c.args.context)) _ _ c.set_context.ensures) c.report_of.ensures.status
    (λ s rest warp. record { items = kept s c.args.context ∷ rest; warp = warp; report = c.args.report })
    (told _ _ _ c.linked-block.ensures.ranked th (λ s rest. record { items = kept s c.args.context ∷ rest; warp = warp_flag (levels_at c.args.which c.args.threads.now); report = c.args.report }) _ _
    (stay_is _ _ _ c.linked-block.ensures.ranked th _ c.args.context c.args.report (levels_are c.args.which (on_top (with_context c.args.context)) _ _ c.set_context.ensures refl)
    (cached _ _ _ c.linked-block.ensures.ranked th (λ x. (may_wait (kind x.op) && top_fits c.args.context false (kind x.op)) ≡ true) _ c.linked-block.ensures.block c.requires.fits)
    c.requires.report)))
