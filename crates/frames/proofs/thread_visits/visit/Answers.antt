-- The thread that was woken has its turn.
use Rattle.std.proofs.Common.{Bool}
use Rattle.frames.proofs.Visits.{can_turn, visit_stops, visit_goes, visit_kept}
use Rattle.frames.proofs.thread_visits.visit.Goals as goal

pub turn-requires : goal.turn-requires
turn-requires g c = can_turn g.R.Rng.stream c.args.project.now c.args.warp c.args.slot c.args.state.now c.requires.resting c.requires.alive _ c.set_status.ensures

pub returns-in-Ok-clause-ok : goal.returns-in-Ok-clause-ok
returns-in-Ok-clause-ok g c = visit_goes g.R.Rng.stream c.args.project.now c.args.warp c.args.slot c.args.state.now c.requires.resting c.requires.alive _ c.set_status.ensures c.turn.new.state _ c.drop_detached.ensures _ c.in-Ok.ensures.ok c.is_active-active.ensures

pub returns-in-Ok-clause-kept : goal.returns-in-Ok-clause-kept
returns-in-Ok-clause-kept g c = visit_kept g.R.Rng.stream c.args.project.now c.args.warp c.args.slot c.args.state.now c.requires.resting c.requires.alive _ c.set_status.ensures c.turn.new.state _ c.drop_detached.ensures c.in-Ok.ensures.kept

pub returns-in-Err-clause-stop : goal.returns-in-Err-clause-stop
returns-in-Err-clause-stop g c = visit_stops g.R.Rng.stream c.args.project.now c.args.warp c.args.slot c.args.state.now c.requires.resting c.requires.alive _ c.set_status.ensures (Unit {0}) Bool c.in-Err.stop c.in-Err.ensures.stop
