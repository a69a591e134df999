-- The questions are dropped, the others are ended, and the running thread is the same.
use Rattle.machine_spec.specs.declared.threads.Report.{Report}
use Rattle.executions.proofs.Beside.{next_at, stopped_at, others_go, others_after, others_stop}
use Rattle.executions.proofs.state.State.stop_others.Goals as goal

pub go_on-requires : goal.go_on-requires
go_on-requires g c =
    stopped_at g.R.Rng.stream c.args.project.now c.args.slot c.args.self.now c.requires.ready c.args.next (next_at c.args.project.now c.args.slot c.args.self.now c.requires.ready c.args.next c.args.which c.requires.at c.requires.next)
    c.args.which c.requires.at c.drop_questions.new.targets c.drop_questions.new.devices c.drop_questions.ensures.cast c.stop_of.new.self c.stop_of.ensures

pub returns-in-Ok : goal.returns-in-Ok
returns-in-Ok g c = λ late. record {
  ok =
      others_go g.R.Rng.stream c.args.project.now c.args.slot c.args.self.now c.requires.ready c.args.next (next_at c.args.project.now c.args.slot c.args.self.now c.requires.ready c.args.next c.args.which c.requires.at c.requires.next)
      c.args.which c.requires.at c.drop_questions.new.targets c.drop_questions.new.devices c.drop_questions.ensures.cast c.stop_of.new.self c.stop_of.ensures c.in-Ok.ensures.ok c.go_on.new.threads c.go_on.result c.go_on.ensures late;
  after =
      others_after g.R.Rng.stream c.args.project.now c.args.slot c.args.self.now c.requires.ready c.args.next (next_at c.args.project.now c.args.slot c.args.self.now c.requires.ready c.args.next c.args.which c.requires.at c.requires.next)
      c.args.which c.requires.at c.drop_questions.new.targets c.drop_questions.new.devices c.drop_questions.ensures.cast c.stop_of.new.self c.stop_of.ensures c.in-Ok.ensures.ok c.go_on.new.threads c.go_on.result c.go_on.ensures;
  stop = λ t s rest found e. tt;
}

pub returns-in-Err : goal.returns-in-Err
returns-in-Err g c = λ late. record {
  ok = tt;
  after = tt;
  stop = others_stop g.R.Rng.stream c.args.project.now c.args.slot c.args.self.now c.requires.ready c.args.next (next_at c.args.project.now c.args.slot c.args.self.now c.requires.ready c.args.next c.args.which c.requires.at c.requires.next) (Unit {0}) Report c.in-Err.stop c.in-Err.ensures.stop late;
}
