-- The levels stand behind the block, and the thread is running.
use Rattle.std.proofs.Common.{sym, ap, ◌∙◌, subst}
use Rattle.machine_spec.specs.declared.threads.Which.TheVariants.{Slot}
use Rattle.project_check.specs.Loaded.{sheet_at}
use Rattle.machine_spec.specs.Places.{at_place}
use Rattle.thread_frames.specs.declared.thread.Thread.{Thread as Bare}
use Rattle.thread_frames.proofs.Alive.{bare_at}
use Rattle.thread_moves.specs.Moves.{levels_at}
use Rattle.thread_moves.specs.Resuming.{IsResumed}
use Rattle.frames.proofs.Resumes.{at_rest, went_on}
use Rattle.frames.proofs.resumption.resume_at.Goals as goal

pub resume-requires : goal.resume-requires
resume-requires c =
    let old = bare_at (at_place (Slot c.args.slot) c.args.threads.now) c.in-Some.thread c.in-Some.ensures in
    at_rest c.args.project.now c.args.slot _ _ old.1 c.requires.fits c.requires.alive c.target-target.result (c.target-target.ensures ∙ ap (λ (b : Bare). b.target) (sym old.2))

pub returns-in-Ok : goal.returns-in-Ok
returns-in-Ok c =
    let old = bare_at (at_place (Slot c.args.slot) c.args.threads.now) c.in-Some.thread c.in-Some.ensures in
    went_on c.args.project.now c.args.slot _ _ old.1 c.requires.fits c.requires.alive _ _
    (subst (λ t. IsResumed (sheet_at t c.args.project.now) (levels_at (Slot c.args.slot) c.args.threads.now) (levels_at (Slot c.args.slot) c.resume.new.threads)) (c.target-target.ensures ∙ ap (λ (b : Bare). b.target) (sym old.2)) c.in-Ok.ensures.resumed) c.in-Ok.ensures.only c.set_status.ensures
