-- What is given up is what the machine drops.
use Rattle.std.proofs.Common.{◌≡◌, sym, ap, ◌∙◌, refl, subst}
use Rattle.std.specs.Prelude.{nat_lt, length}
use Rattle.machine_spec.specs.Pending.{unwind}
use Rattle.machine_spec.specs.declared.threads.Report.TheVariants.{Go, Ended}
use Rattle.thread_frames.specs.Levels.{unwound}
use Rattle.thread_moves.specs.Moves.{MovesOn, levels_at}
use Rattle.thread_moves.proofs.InPlace.{levels_are, only_on, top_at, moves_on}
use Rattle.thread_moves.proofs.Moves.{told, unwound_to}
use Rattle.thread_moves.proofs.Unwinds.{found_report, none_report}
use Rattle.thread_moves.proofs.level_moves.stop_this_script.Goals as goal

pub returns-then-stop_this_script : goal.returns-then-stop_this_script
returns-then-stop_this_script c =
    let th = top_at _ _ _ _ _ c.requires in
    let left : levels_at c.args.which c.stop_this_script.new.self ≡ unwound (levels_at c.args.which c.args.threads.now) = levels_are c.args.which unwound _ _ c.stop_this_script.ensures.levels refl in
    subst (MovesOn c.args.project.now c.args.which c.args.target c.args.id (λ s rest warp. unwind rest) c.args.threads.now c.report_of.new.threads) (sym c.report_of.ensures.same)
    (moves_on _ _ _ _ _ c.requires _ _ Go (only_on c.args.which unwound _ _ c.stop_this_script.ensures.levels) c.report_of.ensures.status (λ s rest warp. unwind rest)
    (told _ _ _ c.linked-block.ensures.ranked th (λ s rest. unwind rest) _ _
    (unwound_to _ _ _ c.linked-block.ensures.ranked th _ _ left (found_report _ (ap (λ ls. nat_lt 0 (length ls)) left ∙ sym c.stop_this_script.ensures.found ∙ c.if-stop_this_script.true)))))

pub returns-else-stop_this_script : goal.returns-else-stop_this_script
returns-else-stop_this_script c =
    let th = top_at _ _ _ _ _ c.requires in
    let left : levels_at c.args.which c.stop_this_script.new.self ≡ unwound (levels_at c.args.which c.args.threads.now) = levels_are c.args.which unwound _ _ c.stop_this_script.ensures.levels refl in
    subst (MovesOn c.args.project.now c.args.which c.args.target c.args.id (λ s rest warp. unwind rest) c.args.threads.now c.report_of-else-stop_this_script.new.threads) (sym c.report_of-else-stop_this_script.ensures.same)
    (moves_on _ _ _ _ _ c.requires _ _ Ended (only_on c.args.which unwound _ _ c.stop_this_script.ensures.levels) c.report_of-else-stop_this_script.ensures.status (λ s rest warp. unwind rest)
    (told _ _ _ c.linked-block.ensures.ranked th (λ s rest. unwind rest) _ _
    (unwound_to _ _ _ c.linked-block.ensures.ranked th _ _ left (none_report _ (ap (λ ls. nat_lt 0 (length ls)) left ∙ sym c.stop_this_script.ensures.found ∙ c.if-stop_this_script.false)))))
