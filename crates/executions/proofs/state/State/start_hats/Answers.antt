-- The hats are started as tasks are, and the running thread is the same.
use Rattle.std.proofs.Common.{ℕ, List}
use Rattle.machine_spec.specs.declared.threads.Report.{Report}
use Rattle.executions.proofs.Beside.{next_is, begun_at, start_goes, start_after, start_stops}
use Rattle.executions.proofs.state.State.start_hats.Goals as goal

pub go_on_or_wait-requires-clause-at : goal.go_on_or_wait-requires-clause-at
go_on_or_wait-requires-clause-at g c =
    begun_at g.R.Rng.stream c.args.project.now c.args.slot c.args.self.now c.requires.ready c.args.next (next_is c.args.project.now c.args.slot c.args.self.now c.requires.ready c.args.next c.requires.next)
    c.args.hats.now c.args.wait c.start.new.threads c.start.new.next c.in-Ok.serials (c.in-Ok.ensures.ok c.args.project.now c.hat_index.ensures) c.place-which.result c.place-which.ensures

pub returns-in-Ok-go_on_or_wait : goal.returns-in-Ok-go_on_or_wait
returns-in-Ok-go_on_or_wait g c = λ late. record {
  ok =
      start_goes g.R.Rng.stream c.args.project.now c.args.slot c.args.self.now c.requires.ready c.args.next (next_is c.args.project.now c.args.slot c.args.self.now c.requires.ready c.args.next c.requires.next)
      c.args.hats.now c.args.wait c.start.new.threads c.start.new.next c.in-Ok.serials (c.in-Ok.ensures.ok c.args.project.now c.hat_index.ensures) c.place-which.result c.place-which.ensures
      c.go_on_or_wait.new.threads c.in-Ok-go_on_or_wait.report c.in-Ok-go_on_or_wait.ensures late;
  after =
      start_after g.R.Rng.stream c.args.project.now c.args.slot c.args.self.now c.requires.ready c.args.next (next_is c.args.project.now c.args.slot c.args.self.now c.requires.ready c.args.next c.requires.next)
      c.args.hats.now c.args.wait c.start.new.threads c.start.new.next c.in-Ok.serials (c.in-Ok.ensures.ok c.args.project.now c.hat_index.ensures) c.place-which.result c.place-which.ensures
      c.go_on_or_wait.new.threads c.in-Ok-go_on_or_wait.report c.in-Ok-go_on_or_wait.ensures (c.in-Ok.ensures.fits c.args.project.now c.hat_index.ensures) c.in-Ok.ensures.few;
  stop = λ t s rest found e. tt;
}

pub returns-in-Err-go_on_or_wait : goal.returns-in-Err-go_on_or_wait
returns-in-Err-go_on_or_wait g c = λ late. record { ok = tt; after = tt; stop = λ t s rest found e. tt }

pub returns-in-Err : goal.returns-in-Err
returns-in-Err g c = λ late. record {
  ok = tt;
  after = tt;
  stop =
      start_stops g.R.Rng.stream c.args.project.now c.args.slot c.args.self.now c.requires.ready c.args.next (next_is c.args.project.now c.args.slot c.args.self.now c.requires.ready c.args.next c.requires.next)
      (List ℕ) Report c.in-Err.stop c.args.hats.now c.args.wait (c.in-Err.ensures.stop c.args.project.now c.hat_index.ensures) late;
}
