-- The levels have passed the block, and the thread stands as its report says.
use Rattle.std.proofs.Common.{subst, sym}
use Rattle.machine_spec.specs.Pending.{settle}
use Rattle.thread_moves.specs.Moves.{MovesOn}
use Rattle.thread_moves.proofs.InPlace.{top_at, moves_on}
use Rattle.thread_moves.proofs.level_moves.go_on.Goals as goal

pub pass-report-requires : goal.pass-report-requires
pass-report-requires c = top_at _ _ _ _ _ c.requires

pub returns : goal.returns
returns c =
    subst (MovesOn c.args.project.now c.args.which c.args.target c.args.id (λ s rest warp. settle rest warp) c.args.threads.now c.report_of.new.threads) (sym c.report_of.ensures.same)
    (moves_on _ _ _ _ _ c.requires _ _ c.pass-report.result c.pass-report.ensures.only c.report_of.ensures.status (λ s rest warp. settle rest warp) c.pass-report.ensures.at)
