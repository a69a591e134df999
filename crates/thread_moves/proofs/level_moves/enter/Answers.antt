-- A level with the branch's first block was opened over the block, which keeps the context and the loop mark.
use Rattle.std.proofs.Common.{◌≡◌, true, false, sym, ap, ◌∙◌, refl, subst}
use Rattle.std.specs.Prelude.{◌&&◌}
use Rattle.opcode_table.specs.Kinds.{kind}
use Rattle.machine_spec.specs.Keeping.{has_branches, under_fits}
use Rattle.machine_spec.specs.Starting.{open_levels}
use Rattle.machine_spec.specs.Step.{position}
use Rattle.machine_spec.specs.declared.threads.Control.TheVariants as control
use Rattle.machine_spec.specs.declared.threads.Report.{Report}
use Rattle.project_check.specs.Loaded.{program_of}
use Rattle.thread_frames.specs.Levels.{on_top, with_branch, with_context, with_loop, warp_flag}
use Rattle.thread_frames.specs.Threads.{frames}
use Rattle.thread_moves.specs.Moves.{MovesOn, levels_at}
use Rattle.thread_moves.proofs.InPlace.{top_at, moves_on, only_then, was_room, stop_as}
use Rattle.thread_moves.proofs.Moves.{told, branch_is, branch_told, branch_held, cached}
use Rattle.thread_moves.proofs.Opened.{levels_opened, only_opened}
use Rattle.thread_moves.proofs.Settles.{IsAt-move}
use Rattle.thread_moves.proofs.level_moves.enter.Goals as goal

pub arrive-report-requires : goal.arrive-report-requires
arrive-report-requires c =
    let ranked = c.linked-block.ensures.ranked in
    let block = c.linked-block.ensures.block in
    let th = top_at _ _ _ _ _ c.requires.at in
    let is = levels_opened _ _ _ _ _ c.requires.at (with_branch c.branch-block.result c.args.is_loop c.args.context) _ c.in-Ok.ensures.ok in
    record {
      warp = warp_flag (levels_at c.args.which c.args.threads.now);
      under = on_top (with_context c.args.context) (on_top (with_loop c.args.is_loop) (levels_at c.args.which c.args.threads.now));
      is = is ∙ ap (λ o. with_branch o c.args.is_loop c.args.context (levels_at c.args.which c.args.threads.now)) (c.branch-block.ensures ∙ sym c.branch-block-2.ensures);
      fit = (branch_is _ _ _ ranked th _ c.args.number _ c.args.is_loop _ c.args.context
          (cached _ _ _ ranked th (λ x. (has_branches (kind x.op) && under_fits c.args.context c.args.is_loop (kind x.op)) ≡ true) _ block c.requires.fits)
          refl (branch_told _ _ _ ranked th c.a_script_is_told.ensures c.args.number _ block) (branch_held _ _ _ ranked th c.links_fall.ensures c.args.number _ block)
          (is ∙ ap (λ o. with_branch o c.args.is_loop c.args.context (levels_at c.args.which c.args.threads.now)) c.branch-block.ensures)).0;
    }

pub returns-clause-at : goal.returns-clause-at
returns-clause-at c =
    let ranked = c.linked-block.ensures.ranked in
    let block = c.linked-block.ensures.block in
    let th = top_at _ _ _ _ _ c.requires.at in
    let is = levels_opened _ _ _ _ _ c.requires.at (with_branch c.branch-block.result c.args.is_loop c.args.context) _ c.in-Ok.ensures.ok in
    let at = branch_is _ _ _ ranked th _ c.args.number _ c.args.is_loop _ c.args.context
    (cached _ _ _ ranked th (λ x. (has_branches (kind x.op) && under_fits c.args.context c.args.is_loop (kind x.op)) ≡ true) _ block c.requires.fits)
    refl (branch_told _ _ _ ranked th c.a_script_is_told.ensures c.args.number _ block) (branch_held _ _ _ ranked th c.links_fall.ensures c.args.number _ block)
    (is ∙ ap (λ o. with_branch o c.args.is_loop c.args.context (levels_at c.args.which c.args.threads.now)) c.branch-block.ensures) in
    subst (MovesOn c.args.project.now c.args.which c.args.target c.args.id (λ s rest warp. position (program_of c.args.project.now) false warp s rest (control.Branch c.args.number c.args.is_loop) c.args.context) c.args.threads.now c.report_of.new.threads) (sym c.report_of.ensures.same)
    (moves_on _ _ _ _ _ c.requires.at _ _ c.arrive-report.result
    (only_then c.args.which _ _ _ (only_opened _ _ _ _ _ c.requires.at (with_branch c.branch-block.result c.args.is_loop c.args.context) _ c.in-Ok.ensures.ok) c.arrive-report.ensures.only)
    c.report_of.ensures.status (λ s rest warp. position (program_of c.args.project.now) false warp s rest (control.Branch c.args.number c.args.is_loop) c.args.context)
    (told _ _ _ ranked th (λ s rest. position (program_of c.args.project.now) false (warp_flag (levels_at c.args.which c.args.threads.now)) s rest (control.Branch c.args.number c.args.is_loop) c.args.context) _ _
    (IsAt-move _ _ _ _ _ _ (sym at.1) refl c.arrive-report.ensures.at)))

pub returns-clause-room : goal.returns-clause-room
returns-clause-room c = was_room (open_levels frames c.args.threads.now) _ _ c.in-Ok.ensures.ok

pub returns-in-Err-clause-stop : goal.returns-in-Err-clause-stop
returns-in-Err-clause-stop c = stop_as (Unit {0}) Report c.in-Err.stop (open_levels frames c.args.threads.now) (open_levels frames c.args.threads.now) _ _ refl c.in-Err.ensures.stop
