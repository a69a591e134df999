-- The instance and what is of it are gone, and so is the running thread; an original goes on.
use Rattle.std.proofs.Common.{◌≡◌, true, false}
use Rattle.machine_spec.specs.declared.threads.Report.{Report}
use Rattle.machine_spec.specs.Stopping.{is_clone}
use Rattle.project_check.specs.Loaded.{program_of}
use Rattle.executions.proofs.Beside.{next_at, delete_stops, delete_goes, delete_after, original_goes, original_after}
use Rattle.executions.proofs.state.State.delete_clone.Goals as goal

pub returns-in-Ok : goal.returns-in-Ok
returns-in-Ok g c = λ late.
    let clone : is_clone (program_of c.args.project.now).records c.args.next.here ≡ true = cc (c.is_clone.ensures, c.if-is_clone.true) in record {
      ok =
          delete_goes g.R.Rng.stream c.args.project.now c.args.slot c.args.self.now c.requires.ready c.args.next (next_at c.args.project.now c.args.slot c.args.self.now c.requires.ready c.args.next c.args.which c.requires.at c.requires.next)
          c.dispose.new.self c.drop_instance.new.self c.dispose.ensures.new c.drop_instance.ensures.new clone
          c.drop_questions.new.targets c.drop_questions.new.devices c.drop_timers.new.self c.stop_of.new.self c.finish.new.self c.args.which c.requires.at c.in-Ok.ensures.ok c.drop_timers.ensures c.stop_of.ensures c.finish.ensures late;
      after =
          delete_after g.R.Rng.stream c.args.project.now c.args.slot c.args.self.now c.requires.ready c.args.next (next_at c.args.project.now c.args.slot c.args.self.now c.requires.ready c.args.next c.args.which c.requires.at c.requires.next)
          c.dispose.new.self c.drop_instance.new.self c.dispose.ensures.new c.drop_instance.ensures.new clone
          c.drop_questions.new.targets c.drop_questions.new.devices c.drop_timers.new.self c.stop_of.new.self c.finish.new.self c.args.which c.requires.at c.in-Ok.ensures.ok c.drop_timers.ensures c.stop_of.ensures c.finish.ensures
          c.drop_questions.ensures.cast;
      stop = λ t s rest found e. tt;
    }

pub returns-in-Err : goal.returns-in-Err
returns-in-Err g c = λ late.
    let clone : is_clone (program_of c.args.project.now).records c.args.next.here ≡ true = cc (c.is_clone.ensures, c.if-is_clone.true) in record {
      ok = tt;
      after = tt;
      stop =
          delete_stops g.R.Rng.stream c.args.project.now c.args.slot c.args.self.now c.requires.ready c.args.next (next_at c.args.project.now c.args.slot c.args.self.now c.requires.ready c.args.next c.args.which c.requires.at c.requires.next)
          c.dispose.new.self c.drop_instance.new.self c.dispose.ensures.new c.drop_instance.ensures.new clone (Unit {0}) Report c.in-Err.stop c.in-Err.ensures.stop late;
    }

pub returns-else-is_clone : goal.returns-else-is_clone
returns-else-is_clone g c = λ late.
    let original : is_clone (program_of c.args.project.now).records c.args.next.here ≡ false = cc (c.is_clone.ensures, c.if-is_clone.false) in record {
      ok =
          original_goes g.R.Rng.stream c.args.project.now c.args.slot c.args.self.now c.requires.ready c.args.next (next_at c.args.project.now c.args.slot c.args.self.now c.requires.ready c.args.next c.args.which c.requires.at c.requires.next)
          c.args.which c.requires.at c.go_on.new.threads c.go_on.result c.go_on.ensures original late;
      after =
          original_after g.R.Rng.stream c.args.project.now c.args.slot c.args.self.now c.requires.ready c.args.next (next_at c.args.project.now c.args.slot c.args.self.now c.requires.ready c.args.next c.args.which c.requires.at c.requires.next)
          c.args.which c.requires.at c.go_on.new.threads c.go_on.result c.go_on.ensures;
      stop = λ t s rest found e. tt;
    }
