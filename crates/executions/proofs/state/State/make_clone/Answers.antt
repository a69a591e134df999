-- A clone is made where there is room, and the running thread is the same.
use Rattle.machine_spec.specs.declared.threads.Report.{Report}
use Rattle.executions.proofs.Beside.{next_is}
use Rattle.executions.proofs.Clones.{clone_at, clone_acts, clone_after, clone_act_stops}
use Rattle.executions.proofs.state.State.make_clone.Goals as goal

pub go_on-requires : goal.go_on-requires
go_on-requires g c =
    clone_at g.R.Rng.stream c.args.project.now c.args.slot c.args.original c.args.self.now c.requires.ready c.args.next (next_is c.args.project.now c.args.slot c.args.self.now c.requires.ready c.args.next c.requires.next)
    c.clone_unless.new.self c.in-Ok.ensures.ok c.in-Ok.ensures.runs c.place-which.result c.place-which.ensures

pub returns-in-Ok : goal.returns-in-Ok
returns-in-Ok g c = λ late. record {
  ok =
      clone_acts g.R.Rng.stream c.args.project.now c.args.slot c.args.original c.args.self.now c.requires.ready c.args.next (next_is c.args.project.now c.args.slot c.args.self.now c.requires.ready c.args.next c.requires.next)
      c.clone_unless.new.self c.in-Ok.ensures.ok c.in-Ok.ensures.runs c.place-which.result c.place-which.ensures c.go_on.new.threads c.go_on.result c.go_on.ensures late;
  after =
      clone_after g.R.Rng.stream c.args.project.now c.args.slot c.args.original c.args.self.now c.requires.ready c.args.next (next_is c.args.project.now c.args.slot c.args.self.now c.requires.ready c.args.next c.requires.next)
      c.clone_unless.new.self c.in-Ok.ensures.ok c.in-Ok.ensures.runs c.place-which.result c.place-which.ensures c.go_on.new.threads c.go_on.result c.go_on.ensures c.in-Ok.ensures.kept;
  stop = λ t s rest found e. tt;
}

pub returns-in-Err : goal.returns-in-Err
returns-in-Err g c = λ late. record {
  ok = tt;
  after = tt;
  stop = clone_act_stops g.R.Rng.stream c.args.project.now c.args.slot c.args.original c.args.self.now c.requires.ready c.args.next (next_is c.args.project.now c.args.slot c.args.self.now c.requires.ready c.args.next c.requires.next) (Unit {0}) Report c.in-Err.stop c.in-Err.ensures.stop late;
}
