-- The branch that was chosen is entered.
use Rattle.std.proofs.Common.{refl}
use Rattle.machine_spec.specs.declared.threads.Control.TheVariants.{Branch}
use Rattle.machine_spec.specs.declared.threads.Report.{Report}
use Rattle.machine_spec.specs.Starting.{open_levels}
use Rattle.thread_frames.specs.Threads.{frames}
use Rattle.executions.proofs.Chosen.{room_stop}
use Rattle.executions.proofs.Rowing.{choice_at, choice_stops, choice_goes, choice_after}
use Rattle.executions.proofs.state.State.enter_chosen.Goals as goal

pub enter-requires-clause-at : goal.enter-requires-clause-at
enter-requires-clause-at g c = choice_at g.R.Rng.stream c.args.project.now c.args.slot c.args.id c.args.late c.requires.chosen.args c.args.runner.now c.args.self.now c.requires.at c.args.block.now c.requires.block (Branch c.args.number c.args.is_loop) c.requires.chosen.is

pub returns-in-Ok : goal.returns-in-Ok
returns-in-Ok g c = record {
  ok = λ a is. choice_goes g.R.Rng.stream c.args.project.now c.args.slot c.args.id c.args.late a c.args.runner.now c.args.self.now c.requires.at c.args.block.now c.requires.block (Branch c.args.number c.args.is_loop) is (record c.args.self.now { threads = c.enter.new.threads }) refl c.in-Ok.report c.in-Ok.ensures.at (λ e. c.in-Ok.ensures.room);
  after = choice_after g.R.Rng.stream c.args.project.now c.args.slot c.args.id c.args.late c.requires.chosen.args c.args.runner.now c.args.self.now c.requires.at c.args.block.now c.requires.block (Branch c.args.number c.args.is_loop) c.requires.chosen.is (record c.args.self.now { threads = c.enter.new.threads }) refl c.in-Ok.report c.in-Ok.ensures.at;
  stop = λ a is t s rest found e. tt;
}

pub returns-in-Err : goal.returns-in-Err
returns-in-Err g c = record {
  ok = tt;
  after = tt;
  stop = λ a is. choice_stops g.R.Rng.stream c.args.project.now c.args.slot c.args.id c.args.late a c.args.runner.now c.args.self.now c.requires.at c.args.block.now c.requires.block (Branch c.args.number c.args.is_loop) is Report Report c.stop_of.result
      (room_stop Report Report c.in-Err.stop c.stop_of.result (open_levels frames c.args.self.now.threads) c.args.self.now.threads c.stop_of.ensures c.in-Err.ensures.stop);
}
