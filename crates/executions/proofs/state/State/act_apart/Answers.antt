-- Others are acted on, and a thread that has not ended is a runner again.
use Rattle.std.proofs.Common.{◌≡◌, Err, sym}
use Rattle.machine_spec.specs.Outcome.{Goes, StopIs}
use Rattle.machine_spec.specs.declared.threads.Report.{Report}
use Rattle.executions.specs.Seen.{seen}
use Rattle.executions.proofs.Runs.{acts_next, gone_after, again_after}
use Rattle.executions.proofs.state.State.act_apart.Goals as goal

pub returns-then-not-is_ended : goal.returns-then-not-is_ended
returns-then-not-is_ended g c = record {
  ok = acts_next g.R.Rng.stream c.args.project.now c.args.slot c.args.id c.args.late c.args.control c.args.runner.now c.args.self.now c.next-next.result c.next-next.ensures (λ o. o ≡ Goes (record { world = seen g.R.Rng.stream c.args.project.now c.act_on_others.new.self; report = c.in-Ok.report })) c.in-Ok.ensures.ok;
  after = again_after c.args.project.now c.args.slot c.in-Ok.report c.runner.result c.act_on_others.new.self (sym c.if-not-is_ended.ensures) c.runner.ensures;
  stop = λ t s rest found e. tt;
}

pub returns-else-not-is_ended : goal.returns-else-not-is_ended
returns-else-not-is_ended g c = record {
  ok = acts_next g.R.Rng.stream c.args.project.now c.args.slot c.args.id c.args.late c.args.control c.args.runner.now c.args.self.now c.next-next.result c.next-next.ensures (λ o. o ≡ Goes (record { world = seen g.R.Rng.stream c.args.project.now c.act_on_others.new.self; report = c.in-Ok.report })) c.in-Ok.ensures.ok;
  after = gone_after c.args.project.now c.args.slot c.in-Ok.report _ c.act_on_others.new.self (sym c.if-not-is_ended.ensures) c.in-Ok.ensures.after;
  stop = λ t s rest found e. tt;
}

pub returns-in-Err : goal.returns-in-Err
returns-in-Err g c = record {
  ok = tt;
  after = tt;
  stop = acts_next g.R.Rng.stream c.args.project.now c.args.slot c.args.id c.args.late c.args.control c.args.runner.now c.args.self.now c.next-next.result c.next-next.ensures (StopIs {T = Report} (Err c.in-Err.stop)) c.in-Err.ensures.stop;
}
